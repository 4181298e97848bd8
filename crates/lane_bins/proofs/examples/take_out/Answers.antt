use Rattle.std.proofs.Common.{◌≡◌, true, Some, sym, subst, ◌∙◌, ap}
use Rattle.std.specs.FinMap as fin
use Rattle.event_laws.specs.Follows.{carried_out}
use Rattle.world_rule.specs.declared.view.Progress.{Progress}
use Rattle.lane_bins.proofs.BinLemmas.{get_removed}
use Rattle.lane_bins.proofs.ExampleLemmas.{stored_is_known}
use Rattle.lane_bins.proofs.examples.take_out.Goals as goal

pub returns-clause-gone : goal.returns-clause-gone
returns-clause-gone g c = ap (λ bin. fin.get bin.state.entries c.args.name) c.tell.ensures.same ∙ ap (λ state. fin.get state.entries c.args.name) c.erase-cell.ensures.rest ∙ get_removed c.args.bin.now.state.entries c.args.name

pub returns-clause-stored : goal.returns-clause-stored
returns-clause-stored g c = λ b is.
    let next = c.requires.next in
    let two : Some next.0 ≡ Some b = sym next.1 ∙ is in
    let one : next.0 ≡ b = cc in
    subst (λ (p : Progress). carried_out p.rank p.number p.at c.learn.new.lane.seen ≡ true) one
    (stored_is_known _ _ _ next.0 _ _ _ _ _ c.learn.new.lane.seen (c.draw-carrier.ensures.owed next.0 _ next.1 next.2) c.erase-cell.ensures.grew c.tell.ensures.told.1 c.learn.ensures.learnt)
