use Rattle.std.proofs.Common.{◌≡◌, Some, map}
use Rattle.event_lists.specs.Futures.{IsIn}
use Rattle.task_tables.specs.Places.{AreRightPlaces}
use Rattle.lane_tasks.specs.Tolds.{IsToldOf}
use Rattle.lane_tasks.proofs.ToldLemmas.{ready_too, tolds_are_of, needs_are_told}
use Rattle.lane_tasks.proofs.lane_task.LaneTask.open.Goals as goal

pub finish-requires : goal.finish-requires
finish-requires g c =
    let ready = rw (← c.self.view_is) at c.requires.values in
    rw c.into_inner-carrier.ensures (ready_too c.self.inside.task.values c.self.inside.tokens.value.tolds c.self.invariant.0.alike ready)

pub returns-clause-tables : goal.returns-clause-tables
returns-clause-tables g c =
    let is = c.self.invariant.0 in
    let all = rw c.into_inner-carrier.ensures at c.finish.ensures in
    tolds_are_of g.J.WordsNaming.words c.self.inside.tokens.value.by c.self.inside.task.needs c.finish.result.items (rw all is.told)

pub returns-clause-told : goal.returns-clause-told
returns-clause-told g c =
    let is = c.self.invariant.0 in
    let all = rw c.into_inner-carrier.ensures at c.finish.ensures in
    λ f needed.
    let number = c.open.ensures.unit.1 in
    let at = rw (c.into_inner-carrier.ensures, number) at needed in
    needs_are_told g.J.WordsNaming.words c.self.inside.tokens.value.by c.self.inside.task.needs c.finish.result.items (rw all is.told) f (rw is.needs at at)
