use Rattle.std.proofs.Common.{◌≡◌, ◌-◌, ◌<◌, false, sym, ap, subst}
use Rattle.std.specs.Prelude.{Option}
use Rattle.event_lists.specs.declared.event.Event.TheVariants.{Gave}
use Rattle.event_lists.specs.Events.{in_hand}
use Rattle.event_lists.specs.Dues.{Dues}
use Rattle.world_rule.specs.declared.view.Progress.{Progress}
use Rattle.world_rule.specs.Steps.{IsNextEffect, effect_of}
use Rattle.world_rule.proofs.EventKindLemmas.{gives_one}
use Rattle.world_words.specs.Lanes.{LaneView, Grew}
use Rattle.world_words.proofs.LaneSeatLemmas.{lane_view, lane_room, grew}
use Rattle.world_words.proofs.words.Words.gave.Goals as goal

pub load_event-requires-clause-step : goal.load_event-requires-clause-step
load_event-requires-clause-step g c =
    let i = c.lane.inside in
    let is = sym c.lane.view_is in
    let seat = c.lane.invariant in
    let a = c.args in
    let may = g.A.Facts.may_do a.self.now.app in
    let room = lane_room _ _ _ _ _ _ seat (subst (λ (v : LaneView). 0 < v.spare) is c.requires.room) in
    let hand_lane = subst (λ (v : LaneView). v.name.bin ≡ false) is c.requires.free.1 in
    gives_one a.self.now.ranks a.self.now.workers a.self.now.program may _ _ i.seat.me i.name _ seat.alone room seat.own hand_lane
    a.future
    (subst (λ (v : LaneView). Dues v.seen v.name v.mine (Gave a.future)) is c.requires.dues)
    (subst (λ (v : LaneView). IsNextEffect a.self.now.program v.progress v.seen v.name v.mine (Gave a.future) (in_hand v.mine)) is c.requires.next)

pub returns : goal.returns
returns g c =
    let i = c.lane.inside in
    let is = sym c.lane.view_is in
    let seat = c.lane.invariant in
    let a = c.args in
    let may = g.A.Facts.may_do a.self.now.app in
    let s = c.load_event.ensures in
    subst (λ (p : Option Progress). Grew a.self.now may (Gave a.future) (effect_of p) a.lane.now (lane_view c.load_event.new.seat.table_id i.name c.gave.new.self c.load_event.new.seat.me)) (ap (λ (v : LaneView). v.progress) c.lane.view_is)
    (grew a.self.now may i.name (Gave a.future) (effect_of i.seat.me.0.progress) i.seat.me c.load_event.result c.load_event.new.seat.me i.seat.table_id c.load_event.new.seat.table_id i.own c.gave.new.self a.lane.now c.lane.view_is c.requires.room s.0 s.1 c.gave.ensures)
