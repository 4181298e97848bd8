use Rattle.std.proofs.Common.{◌≡◌, ℕ, ◌+◌, ◌-◌, ◌<◌, ◌^◌, ◌%◌, false, sym, ap, subst, ◌∙◌}
use Rattle.std.specs.Prelude.{Option, Some, None}
use Rattle.atomic_table.specs.Table.{Allows}
use Rattle.event_lists.specs.declared.event.Event.{Event}
use Rattle.event_lists.specs.declared.mark.Item.{Item}
use Rattle.event_lists.specs.declared.mark.Item.TheVariants.{Message}
use Rattle.event_lists.specs.declared.kind.Kind.TheVariants.{Handlings as handlings}
use Rattle.event_lists.specs.Events.{in_hand}
use Rattle.event_lists.specs.Futures.{is_fresh}
use Rattle.world_rule.specs.Owing.{ended}
use Rattle.world_rule.specs.Views.{own_events}
use Rattle.world_rule.specs.CounterWords.{word_at}
use Rattle.world_rule.specs.Shows.{ShowsOneRun}
use Rattle.world_rule.specs.Steps.{Appends}
use Rattle.world_rule.proofs.EventKindLemmas.{handles_one}
use Rattle.world_words.specs.Lanes.{LaneView, Grew}
use Rattle.world_words.proofs.LaneSeatLemmas.{lane_view, lane_room, grew, ended_numbered, ended_recorded, ended_seat}
use Rattle.world_words.proofs.words.Words.handled.Goals as goal

pub add_event-number-requires-clause-step : goal.add_event-number-requires-clause-step
add_event-number-requires-clause-step g c =
    let i = c.lane.inside in
    let is = sym c.lane.view_is in
    let seat = c.lane.invariant in
    let a = c.args in
    let may = g.A.Facts.may_do a.self.now.app in
    let room = lane_room _ _ _ _ _ _ seat (subst (λ (v : LaneView). 0 < v.spare) is c.requires.room) in
    let hand_lane = subst (λ (v : LaneView). v.name.bin ≡ false) is c.requires.free.1 in
    let h = subst (λ (v : LaneView). (r : ℕ) × (m : ℕ) × (in_hand v.mine ≡ Some (Message r m))) is c.requires.hand in
    subst (λ (e : Event). Allows (ShowsOneRun a.self.now.ranks a.self.now.workers a.self.now.program may) a.self.now.table.slots i.seat.id i.seat.me (word_at handlings i.name.rank) (λ n. (n + 1) % 2 ^ 64) (Appends a.self.now.ranks a.self.now.workers a.self.now.program may i.name e None i.seat.me)) (ap (ended 0) (sym h.2))
    (handles_one a.self.now.ranks a.self.now.workers a.self.now.program may _ _ i.seat.me i.name _ seat.alone room seat.own hand_lane
    0 h.0 h.1 h.2
    (subst (λ (v : LaneView). is_fresh v.mine ≡ false) is c.requires.done))

pub invariant_of-lane : goal.invariant_of-lane
invariant_of-lane g c =
    let i = c.lane.inside in
    let is = sym c.lane.view_is in
    let seat = c.lane.invariant in
    let a = c.args in
    let may = g.A.Facts.may_do a.self.now.app in
    let h = subst (λ (v : LaneView). (r : ℕ) × (m : ℕ) × (in_hand v.mine ≡ Some (Message r m))) is c.requires.hand in
    let hand = h.2 in
    let s = c.add_event-number.ensures in
    ended_seat a.self.now may i.name i.seat.me c.add_event-number.result c.add_event-number.new.seat.me i.seat.table_id c.add_event-number.new.seat.table_id i.hand i.owes i.own c.ended.new.self (Message h.0 h.1) seat
    (subst (λ (v : LaneView). 0 < v.spare) is c.requires.room) s.0 (subst (λ (v : LaneView). v.owes ≡ None) is c.requires.free.0) hand s.1 (c.ended.ensures (Message h.0 h.1) (sym seat.hand_is ∙ hand))

pub returns : goal.returns
returns g c =
    let i = c.lane.inside in
    let is = sym c.lane.view_is in
    let h = subst (λ (v : LaneView). (r : ℕ) × (m : ℕ) × (in_hand v.mine ≡ Some (Message r m))) is c.requires.hand in
    let seat = c.lane.invariant in
    let a = c.args in
    let may = g.A.Facts.may_do a.self.now.app in
    let s = c.add_event-number.ensures in
    subst (λ (h : Option Item). Grew a.self.now may (ended c.add_event-number.result h) None a.lane.now (lane_view c.add_event-number.new.seat.table_id i.name c.ended.new.self c.add_event-number.new.seat.me)) (ap (λ (v : LaneView). in_hand v.mine) c.lane.view_is)
    (subst (λ (e : Event). Grew a.self.now may e None a.lane.now (lane_view c.add_event-number.new.seat.table_id i.name c.ended.new.self c.add_event-number.new.seat.me)) (ended_numbered c.add_event-number.result (in_hand (own_events i.seat.me.0.parts)))
    (grew a.self.now may i.name (ended 0 (in_hand (own_events i.seat.me.0.parts))) (None) i.seat.me c.add_event-number.result c.add_event-number.new.seat.me i.seat.table_id c.add_event-number.new.seat.table_id i.own c.ended.new.self a.lane.now c.lane.view_is c.requires.room s.0 s.1
    (ended_recorded c.add_event-number.result (in_hand (own_events i.seat.me.0.parts)) (Message h.0 h.1) i.own c.ended.new.self h.2 (c.ended.ensures (Message h.0 h.1) (sym seat.hand_is ∙ h.2)))))
