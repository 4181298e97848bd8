use Rattle.std.proofs.Common.{◌≡◌, suc, ◌<◌, false, sym, subst}
use Rattle.std.specs.Prelude.{Some, None, slice_get}
use Rattle.event_lists.specs.declared.event.Event.TheVariants.{Enter}
use Rattle.event_lists.specs.declared.future.Bringer.TheVariants.{Main as main_at}
use Rattle.event_lists.specs.Events.{main_of, in_hand}
use Rattle.event_lists.specs.Dues.{NeedsAreDues}
use Rattle.event_lists.specs.Fences.{fence_in, enters}
use Rattle.event_laws.specs.Follows.{Wait, program_at, deeds}
use Rattle.world_rule.proofs.EventKindLemmas.{enters_one}
use Rattle.world_words.specs.Lanes.{LaneView}
use Rattle.world_words.proofs.LaneSeatLemmas.{lane_room, grew}
use Rattle.world_words.proofs.words.Words.mark_enter.Goals as goal

pub load_event-requires-clause-step : goal.load_event-requires-clause-step
load_event-requires-clause-step g c =
    let i = c.lane.inside in
    let is = sym c.lane.view_is in
    let seat = c.lane.invariant in
    let a = c.args in
    let may = g.A.Facts.may_do a.self.now.app in
    let room = lane_room _ _ _ _ _ _ seat (subst (λ (v : LaneView). 0 < v.spare) is c.requires.room) in
    let hand_lane = subst (λ (v : LaneView). v.name.bin ≡ false) is c.requires.free.1 in
    enters_one a.self.now.ranks a.self.now.workers a.self.now.program may _ _ i.seat.me i.name _ seat.alone room seat.own hand_lane
    a.fence
    (subst (λ (v : LaneView). v.name ≡ main_of v.name.rank) is c.requires.main.0)
    (subst (λ (v : LaneView). in_hand v.mine ≡ None) is c.requires.main.1)
    (subst (λ (v : LaneView). fence_in v.mine ≡ None) is c.requires.fence.0)
    (subst (λ (v : LaneView). a.fence ≡ suc (enters v.mine)) is c.requires.fence.1)
    (subst (λ (v : LaneView). NeedsAreDues (main_at v.name.rank) v.seen) is c.requires.needs)
    (subst (λ (v : LaneView). slice_get (program_at v.name.rank a.self.now.program) (deeds v.mine) ≡ Some Wait) is c.requires.next)

pub returns : goal.returns
returns g c =
    let i = c.lane.inside in
    let is = sym c.lane.view_is in
    let seat = c.lane.invariant in
    let a = c.args in
    let may = g.A.Facts.may_do a.self.now.app in
    let s = c.load_event.ensures in
    grew a.self.now may i.name (Enter a.fence) (None) i.seat.me c.load_event.result c.load_event.new.seat.me i.seat.table_id c.load_event.new.seat.table_id i.own c.enter.new.self a.lane.now c.lane.view_is c.requires.room s.0 s.1 c.enter.ensures
