use Rattle.std.proofs.Common.{◌≡◌, ◌<◌, false, sym, subst}
use Rattle.std.specs.Prelude.{None}
use Rattle.event_lists.specs.declared.event.Event.TheVariants.{Receipt as Receives}
use Rattle.event_lists.specs.Fences.{Fences}
use Rattle.world_rule.proofs.EventKindLemmas.{receives_one}
use Rattle.world_words.specs.Lanes.{LaneView}
use Rattle.world_words.proofs.LaneSeatLemmas.{lane_room, grew}
use Rattle.world_words.proofs.words.Words.mark_receipt.Goals as goal

pub load_event-requires-clause-step : goal.load_event-requires-clause-step
load_event-requires-clause-step g c =
    let i = c.lane.inside in
    let is = sym c.lane.view_is in
    let seat = c.lane.invariant in
    let a = c.args in
    let may = g.A.Facts.may_do a.self.now.app in
    let room = lane_room _ _ _ _ _ _ seat (subst (λ (v : LaneView). 0 < v.spare) is c.requires.room) in
    let hand_lane = subst (λ (v : LaneView). v.name.bin ≡ false) is c.requires.free.1 in
    receives_one a.self.now.ranks a.self.now.workers a.self.now.program may _ _ i.seat.me i.name _ seat.alone room seat.own hand_lane
    a.receipt.now
    (subst (λ (v : LaneView). Fences a.self.now.ranks v.seen v.name v.mine (Receives a.receipt.now)) is c.requires.receipt)

pub returns : goal.returns
returns g c =
    let i = c.lane.inside in
    let is = sym c.lane.view_is in
    let seat = c.lane.invariant in
    let a = c.args in
    let may = g.A.Facts.may_do a.self.now.app in
    let s = c.load_event.ensures in
    grew a.self.now may i.name (Receives a.receipt.now) (None) i.seat.me c.load_event.result c.load_event.new.seat.me i.seat.table_id c.load_event.new.seat.table_id i.own c.receipt.new.self a.lane.now c.lane.view_is c.requires.room s.0 s.1 c.receipt.ensures
