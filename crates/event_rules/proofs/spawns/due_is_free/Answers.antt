use Rattle.std.proofs.Common.{◌≡◌, ◌↔◌, sym, subst, true}
use Rattle.std.specs.Prelude.{Option}
use Rattle.app_core.specs.declared.label.Label.{Label}
use Rattle.event_lists.specs.Events.{part}
use Rattle.event_lists.specs.Futures.{bringer}
use Rattle.event_lists.specs.Dues.{DueIsFree}
use Rattle.event_rules.proofs.DueLemmas.{own_due_free}
use Rattle.event_rules.proofs.spawns.due_is_free.Goals as goal

pub returns-then-is_own : goal.returns-then-is_own
returns-then-is_own g c =
    let s = c.args.state.now in
    let log = g.P.Past.log_of c.args.past.now in
    let by = bringer c.args.lane.rank s.hand in
    subst (λ (o : Option Label). (s.keeps ≡ true) ↔ DueIsFree s.own by log (part c.args.lane log) o) (sym c.in-Some.is) (own_due_free log c.args.lane s c.requires.shown c.requires.spawns c.in-Some.label by (sym (c.if-is_own.ensures)))
