use Rattle.std.proofs.Common.{◌≡◌, Some, ap, sym, subst, rules}
use Rattle.event_lists.specs.Events.{IsSubmitted}
use Rattle.task_tables.proofs.NamingLemmas.{some_then}
use Rattle.world_rule.specs.Owing.{NeedsKnown}
use Rattle.world_words.specs.Lanes.{task_name}
use Rattle.lane_tasks.proofs.GivenLemmas.{submission_lasts}
use Rattle.lane_tasks.proofs.taking.take_up.Goals as goal

pub learn_all-requires-clause-tables : goal.learn_all-requires-clause-tables
learn_all-requires-clause-tables g c = rw c.requires.named at c.into_parts-opened.ensures.tables

pub take_in-requires-clause-needs : goal.take_in-requires-clause-needs
take_in-requires-clause-needs g c =
    let opened = c.into_parts-opened.result in
    let parts = c.into_parts-opened.ensures in
    let carries = parts.carries in
    subst (λ p. NeedsKnown p opened.carrier.seen c.learn_all.new.lane.seen) (sym (ap (λ o. o.pending) carries.1.0))
    (c.learnt_needs_are_known.ensures opened.carrier.owed.to opened.opened.number opened.carrier.seen c.learn_all.new.lane.seen opened.tolds.items parts.told c.learn_all.ensures.learnt)

pub returns-clause-submitted : goal.returns-clause-submitted
returns-clause-submitted g c =
    let opened = c.into_parts-opened.result in
    let parts = c.into_parts-opened.ensures in
    let here : opened.carrier.owed.to ≡ c.args.lane.now.name.rank = search rules in
    let named = rw (parts.unit.0, parts.unit.1) at parts.named in
    some_then g.J.Naming.app named (λ app carries.
    submission_lasts opened.carrier.seen c.take_in.new.lane.seen opened.carrier.owed.to c.args.lane.now.name.rank c.args.ready.task.number
    (task_name (g.A.App.label_of app c.args.ready.task.unit) c.args.ready.task.needs (g.A.App.due_of app c.args.ready.task.unit)) c.take_in.ensures.learnt here carries.1)
