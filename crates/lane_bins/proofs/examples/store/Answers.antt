use Rattle.std.proofs.Common.{◌≡◌, true, Some, sym, subst, ◌∙◌, ap}
use Rattle.std.specs.FinMap as fin
use Rattle.event_laws.specs.Follows.{carried_out}
use Rattle.world_rule.specs.declared.view.Progress.{Progress}
use Rattle.lane_bins.proofs.BinLemmas.{get_inserted}
use Rattle.lane_bins.proofs.ExampleLemmas.{stored_is_known}
use Rattle.lane_bins.proofs.examples.store.Goals as goal

pub returns-clause-there : goal.returns-clause-there
returns-clause-there g c = ap (λ bin. fin.get bin.state.entries c.args.name) c.tell.ensures.same ∙ ap (λ entries. fin.get entries c.args.name) c.in_ok-callbacks.ensures.entries ∙ get_inserted c.args.bin.now.state.entries c.args.name c.args.cell

pub returns-clause-stored : goal.returns-clause-stored
returns-clause-stored g c = λ b is.
    let next = c.requires.next in
    let two : Some next.0 ≡ Some b = sym next.1 ∙ is in
    let one : next.0 ≡ b = cc in
    subst (λ (p : Progress). carried_out p.rank p.number p.at c.learn.new.lane.seen ≡ true) one
    (stored_is_known _ _ _ next.0 _ _ _ _ _ c.learn.new.lane.seen (c.draw-carrier.ensures.owed next.0 _ next.1 next.2) c.in_ok-callbacks.ensures.grew c.tell.ensures.told.1 c.learn.ensures.learnt)
