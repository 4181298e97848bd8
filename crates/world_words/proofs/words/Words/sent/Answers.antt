use Rattle.std.proofs.Common.{◌≡◌, ◌-◌, ◌<◌, false, refl, sym, ap, subst}
use Rattle.std.specs.Prelude.{Option, None}
use Rattle.event_lists.specs.declared.event.Event.TheVariants.{Sent}
use Rattle.event_lists.specs.Events.{in_hand}
use Rattle.event_lists.specs.Counting.{MaySpawn}
use Rattle.event_lists.specs.Dues.{Dues}
use Rattle.event_lists.specs.Fences.{fence_in}
use Rattle.world_rule.specs.declared.view.Progress.{Progress}
use Rattle.world_rule.specs.Steps.{IsNextEffect, effect_of}
use Rattle.world_rule.proofs.EventKindLemmas.{sends_one}
use Rattle.world_words.specs.Lanes.{LaneView, Grew}
use Rattle.world_words.proofs.LaneSeatLemmas.{lane_view, lane_room, grew, grown_seat}
use Rattle.world_words.proofs.words.Words.sent.Goals as goal

pub add_event-number-requires-clause-step : goal.add_event-number-requires-clause-step
add_event-number-requires-clause-step g c =
    let i = c.lane.inside in
    let is = sym c.lane.view_is in
    let seat = c.lane.invariant in
    let a = c.args in
    let may = g.A.Facts.may_do a.self.now.app in
    let room = lane_room _ _ _ _ _ _ seat (subst (λ (v : LaneView). 0 < v.spare) is c.requires.room) in
    let hand_lane = subst (λ (v : LaneView). v.name.bin ≡ false) is c.requires.free.1 in
    sends_one a.self.now.ranks a.self.now.workers a.self.now.program may _ _ i.seat.me i.name _ seat.alone room seat.own hand_lane
    0 a.to a.parcel
    (subst (λ (v : LaneView). MaySpawn v.name (in_hand v.mine)) is c.requires.spawn)
    c.requires.target.0
    (subst (λ (v : LaneView). a.to ≡ v.name.rank → ⊥) is c.requires.target.1)
    (subst (λ (v : LaneView). Dues v.seen v.name v.mine (Sent 0 a.to a.parcel)) is c.requires.dues)
    (subst (λ (v : LaneView). in_hand v.mine ≡ None → fence_in v.mine ≡ None) is c.requires.outside)
    (subst (λ (v : LaneView). IsNextEffect a.self.now.program v.progress v.seen v.name v.mine (Sent 0 a.to a.parcel) (in_hand v.mine)) is c.requires.next)

pub invariant_of-lane : goal.invariant_of-lane
invariant_of-lane g c =
    let i = c.lane.inside in
    let is = sym c.lane.view_is in
    let seat = c.lane.invariant in
    let a = c.args in
    let may = g.A.Facts.may_do a.self.now.app in
    let s = c.add_event-number.ensures in
    grown_seat a.self.now may i.name (Sent 0 a.to a.parcel) (effect_of i.seat.me.0.progress) i.seat.me c.add_event-number.result c.add_event-number.new.seat.me i.seat.table_id c.add_event-number.new.seat.table_id i.hand i.hand i.owes _ i.own c.sent.new.self seat (subst (λ (v : LaneView). 0 < v.spare) is c.requires.room) s.0 s.1 (sym seat.hand_is) refl c.sent.ensures

pub returns : goal.returns
returns g c =
    let i = c.lane.inside in
    let is = sym c.lane.view_is in
    let seat = c.lane.invariant in
    let a = c.args in
    let may = g.A.Facts.may_do a.self.now.app in
    let s = c.add_event-number.ensures in
    subst (λ (p : Option Progress). Grew a.self.now may (Sent c.add_event-number.result a.to a.parcel) (effect_of p) a.lane.now (lane_view c.add_event-number.new.seat.table_id i.name c.sent.new.self c.add_event-number.new.seat.me)) (ap (λ (v : LaneView). v.progress) c.lane.view_is)
    (grew a.self.now may i.name (Sent 0 a.to a.parcel) (effect_of i.seat.me.0.progress) i.seat.me c.add_event-number.result c.add_event-number.new.seat.me i.seat.table_id c.add_event-number.new.seat.table_id i.own c.sent.new.self a.lane.now c.lane.view_is c.requires.room s.0 s.1 c.sent.ensures)
