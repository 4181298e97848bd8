use Rattle.std.proofs.Common.{◌≡◌, ℕ, ◌+◌, ◌-◌, ◌*◌, ◌<◌, false, sym, ap, subst, ◌∙◌}
use Rattle.std.specs.Prelude.{None}
use Rattle.atomic_table.specs.Table.{Allows}
use Rattle.event_lists.specs.declared.event.Event.{Event}
use Rattle.event_lists.specs.OwnEvents.{IsNextReading, reading_event}
use Rattle.world_rule.specs.Shows.{ShowsOneRun}
use Rattle.world_rule.specs.Steps.{Appends}
use Rattle.world_rule.proofs.EventKindLemmas.{read_numbered, reads_one}
use Rattle.lane_trace.specs.Records.{recorded}
use Rattle.world_words.specs.Lanes.{LaneView, Grew}
use Rattle.world_words.proofs.LaneSeatLemmas.{lane_view, lane_room, grew}
use Rattle.world_words.proofs.words.Words.read.Goals as goal

pub load_event-value-requires-clause-step : goal.load_event-value-requires-clause-step
load_event-value-requires-clause-step g c =
    let i = c.lane.inside in
    let is = sym c.lane.view_is in
    let seat = c.lane.invariant in
    let a = c.args in
    let may = g.A.Facts.may_do a.self.now.app in
    let room = lane_room _ _ _ _ _ _ seat (subst (λ (v : LaneView). 0 < v.spare) is c.requires.room) in
    let hand_lane = subst (λ (v : LaneView). v.name.bin ≡ false) is c.requires.free.1 in
    let p = c.count_of.ensures.place in
    subst (λ (z : ℕ). Allows (ShowsOneRun a.self.now.ranks a.self.now.workers a.self.now.program may) a.self.now.table.slots i.seat.id i.seat.me (16 * i.name.rank + z) (λ n. n) (Appends a.self.now.ranks a.self.now.workers a.self.now.program may i.name (reading_event a.kind 0 a.fence a.pass) None i.seat.me)) (sym p)
    (reads_one a.self.now.ranks a.self.now.workers a.self.now.program may _ _ i.seat.me i.name _ seat.alone room seat.own hand_lane a.kind 0 a.fence a.pass
    (subst (λ (v : LaneView). IsNextReading a.self.now.ranks v.seen v.name v.mine a.kind a.fence a.pass) is c.requires.next))

pub returns : goal.returns
returns g c =
    let i = c.lane.inside in
    let is = sym c.lane.view_is in
    let seat = c.lane.invariant in
    let a = c.args in
    let may = g.A.Facts.may_do a.self.now.app in
    let s = c.load_event-value.ensures in
    subst (λ (e : Event). Grew a.self.now may e None a.lane.now (lane_view c.load_event-value.new.seat.table_id i.name c.read.new.self c.load_event-value.new.seat.me)) (read_numbered a.kind c.load_event-value.result 0 a.fence a.pass)
    (grew a.self.now may i.name (reading_event a.kind 0 a.fence a.pass) (None) i.seat.me c.load_event-value.result c.load_event-value.new.seat.me i.seat.table_id c.load_event-value.new.seat.table_id i.own c.read.new.self a.lane.now c.lane.view_is c.requires.room s.0 s.1
    (c.read.ensures ∙ ap (λ (e : Event). recorded e i.own) (sym (read_numbered a.kind c.load_event-value.result 0 a.fence a.pass))))
