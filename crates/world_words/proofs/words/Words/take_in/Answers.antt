use Rattle.std.proofs.Common.{rules, ◌≡◌, ◌-◌, ◌<◌, ◌^◌, false, List, length, sym, ap, subst, ◌∙◌}
use Rattle.std.specs.Prelude.{Option, Some, None}
use Rattle.atomic_table.specs.Table.{Allows}
use Rattle.event_lists.specs.declared.event.Event.{Event}
use Rattle.event_lists.specs.declared.mark.Mark.{Mark}
use Rattle.event_lists.specs.Events.{in_hand}
use Rattle.world_rule.specs.declared.view.Pending.{Pending}
use Rattle.world_rule.specs.declared.view.Pending.TheVariants.{Counted}
use Rattle.world_rule.specs.declared.view.Owed.{Owed}
use Rattle.world_rule.specs.declared.view.View.{View}
use Rattle.world_rule.specs.Owing.{took, Made, IsCounted, NeedsKnown, item_in}
use Rattle.world_rule.specs.Views.{mark, numbered, first_of}
use Rattle.world_rule.specs.Shows.{ShowsOneRun}
use Rattle.world_rule.specs.Steps.{Appends}
use Rattle.world_rule.proofs.PendingLemmas.{made_begins, from_made}
use Rattle.world_rule.proofs.SeatLemmas.{unites}
use Rattle.world_rule.proofs.EventKindLemmas.{takes_one, counted_item}
use Rattle.world_words.specs.Lanes.{LaneView, CarrierView, Grew}
use Rattle.world_words.specs.Seats.{the_owed}
use Rattle.world_words.proofs.LaneSeatLemmas.{lane_view, lane_room, grew, took_in, loaded_seat, loaded_view, grew_unloaded, learnt, took_numbered, took_recorded}
use Rattle.world_words.proofs.words.Words.take_in.Goals as goal

pub join_seat-requires : goal.join_seat-requires
join_seat-requires g c = (search rules, search rules, search rules, search rules, unites _ _ _ _ _ _ _ _)

pub load_event-requires-clause-step : goal.load_event-requires-clause-step
load_event-requires-clause-step g c =
    let i = c.lane.inside in
    let is = sym c.lane.view_is in
    let seat = c.lane.invariant in
    let a = c.args in
    let may = g.A.Facts.may_do a.self.now.app in
    let d = c.carrier.inside in
    let carried = c.carrier.invariant in
    let n = c.join_seat.new.seat.me in
    let o = the_owed d.seat.me.0.owes in
    let none : i.seat.me.0.owes ≡ None = ap (λ (v : LaneView). v.owes) c.lane.view_is ∙ c.requires.free.0 in
    let t = took_in i.seat.table_id i.name i.hand i.owes (Some o) i.own i.seat.me d.seat.me n seat carried.passive c.join_seat.ensures.2 in
    let k = loaded_seat i.seat.table_id c.join_seat.new.seat.table_id i.name i.hand i.owes d.item o i.own i.seat.me d.seat.me n seat carried.passive c.join_seat.ensures.2 none c.join_seat.ensures.0 in
    let held = sym c.carrier.view_is in
    let counted : IsCounted o.pending = subst (λ (p : CarrierView). IsCounted p.owed.pending) held c.requires.item.0 in
    let one = counted_item o.pending counted in
    let room = lane_room _ _ _ _ _ _ seat (subst (λ (v : LaneView). 0 < v.spare) is c.requires.room) in
    let hand_lane = subst (λ (v : LaneView). v.name.bin ≡ false) is c.requires.free.2 in
    let idle = subst (λ (v : LaneView). in_hand v.mine ≡ None) is c.requires.free.1 in
    let event : (the_owed n.0.owes).pending ≡ Counted one.0 = ap (λ q. (the_owed q).pending) k.3 ∙ one.1 in
    let to : o.to ≡ i.name.rank = ap (λ (p : CarrierView). p.owed.to) c.carrier.view_is ∙ c.requires.item.1 ∙ ap (λ (v : LaneView). v.name.rank) is in
    let told : n.0.told ≡ d.seat.me.0.seen = ap (λ (v : View). v.told) t in
    let known : NeedsKnown o.pending d.seat.me.0.seen i.seat.me.0.seen = subst (λ (v : LaneView). NeedsKnown o.pending d.seat.me.0.seen v.seen) is (subst (λ (p : CarrierView). NeedsKnown p.owed.pending p.seen a.lane.now.seen) held c.requires.needs) in
    subst (λ (z : Pending). Allows (ShowsOneRun a.self.now.ranks a.self.now.workers a.self.now.program may) a.self.now.table.slots c.join_seat.new.seat.id n 0 (λ m. m) (Appends a.self.now.ranks a.self.now.workers a.self.now.program may i.name (took z) None n)) (sym event)
    (takes_one a.self.now.ranks a.self.now.workers a.self.now.program may _ _ n i.name _ k.1
    (subst (λ (es : List Event). length es < 2 ^ 48) (sym k.2) room) k.0 hand_lane o k.3 to one.0 one.1
    (ap in_hand k.2 ∙ idle)
    (subst (Made o) (sym told) (from_made o d.seat.me.0.seen o.pending counted carried.origin))
    (subst (λ (z : Pending). NeedsKnown z n.0.told n.0.seen) one.1 (subst (NeedsKnown o.pending n.0.told) (sym (ap (λ (v : View). v.seen) t)) (subst (λ (log : List Mark). NeedsKnown o.pending log i.seat.me.0.seen) (sym told) known))))

pub returns-clause-grew : goal.returns-clause-grew
returns-clause-grew g c =
    let i = c.lane.inside in
    let is = sym c.lane.view_is in
    let seat = c.lane.invariant in
    let a = c.args in
    let may = g.A.Facts.may_do a.self.now.app in
    let d = c.carrier.inside in
    let carried = c.carrier.invariant in
    let n = c.join_seat.new.seat.me in
    let o = the_owed d.seat.me.0.owes in
    let none : i.seat.me.0.owes ≡ None = ap (λ (v : LaneView). v.owes) c.lane.view_is ∙ c.requires.free.0 in
    let t = took_in i.seat.table_id i.name i.hand i.owes (Some o) i.own i.seat.me d.seat.me n seat carried.passive c.join_seat.ensures.2 in
    let k = loaded_seat i.seat.table_id c.join_seat.new.seat.table_id i.name i.hand i.owes d.item o i.own i.seat.me d.seat.me n seat carried.passive c.join_seat.ensures.2 none c.join_seat.ensures.0 in
    let s = c.load_event.ensures in
    let owes : Option Owed = first_of i.seat.me.0.owes (Some o) in
    let view : lane_view c.join_seat.new.seat.table_id i.name i.own n ≡ record a.lane.now { owes = owes } =
    loaded_view i.seat.table_id c.join_seat.new.seat.table_id i.name i.own i.seat.me n d.seat.me.0.seen owes t c.join_seat.ensures.0 ∙ ap (λ (v : LaneView). record v { owes = owes }) c.lane.view_is in
    let held = sym c.carrier.view_is in
    let counted : IsCounted o.pending = subst (λ (p : CarrierView). IsCounted p.owed.pending) held c.requires.item.0 in
    let one = counted_item o.pending counted in
    let event : numbered c.load_event.result (took (the_owed n.0.owes).pending) ≡ took a.carrier.owed.pending = took_numbered c.load_event.result (the_owed n.0.owes).pending ∙ ap (λ q. took (the_owed q).pending) k.3 ∙ ap (λ (p : CarrierView). took p.owed.pending) c.carrier.view_is in
    subst (λ (e : Event). Grew a.self.now may e None a.lane.now (lane_view c.load_event.new.seat.table_id i.name c.took.new.self c.load_event.new.seat.me)) event
    (grew_unloaded a.self.now may (numbered c.load_event.result (took (the_owed n.0.owes).pending)) None owes a.lane.now (lane_view c.load_event.new.seat.table_id i.name c.took.new.self c.load_event.new.seat.me) (grew a.self.now may i.name (took (the_owed n.0.owes).pending) None n c.load_event.result c.load_event.new.seat.me c.join_seat.new.seat.table_id c.load_event.new.seat.table_id i.own c.took.new.self (record a.lane.now { owes = owes }) view c.requires.room s.0 s.1 (took_recorded c.load_event.result (the_owed n.0.owes).pending one.0 i.own c.took.new.self (ap (λ q. (the_owed q).pending) k.3 ∙ one.1) (c.took.ensures one.0 (sym carried.item_is ∙ ap item_in one.1)))))

pub returns-clause-learnt : goal.returns-clause-learnt
returns-clause-learnt g c =
    let i = c.lane.inside in
    let is = sym c.lane.view_is in
    let seat = c.lane.invariant in
    let a = c.args in
    let may = g.A.Facts.may_do a.self.now.app in
    let d = c.carrier.inside in
    let carried = c.carrier.invariant in
    let n = c.join_seat.new.seat.me in
    let o = the_owed d.seat.me.0.owes in
    let none : i.seat.me.0.owes ≡ None = ap (λ (v : LaneView). v.owes) c.lane.view_is ∙ c.requires.free.0 in
    let t = took_in i.seat.table_id i.name i.hand i.owes (Some o) i.own i.seat.me d.seat.me n seat carried.passive c.join_seat.ensures.2 in
    let k = loaded_seat i.seat.table_id c.join_seat.new.seat.table_id i.name i.hand i.owes d.item o i.own i.seat.me d.seat.me n seat carried.passive c.join_seat.ensures.2 none c.join_seat.ensures.0 in
    learnt a.self.now.ranks a.self.now.workers a.self.now.program may (mark i.name (numbered c.load_event.result (took (the_owed n.0.owes).pending)) None) n.0 c.load_event.new.seat.me.0 a.carrier.seen (ap (λ (v : View). v.told) t ∙ ap (λ (p : CarrierView). p.seen) c.carrier.view_is) c.load_event.ensures.1.0

pub returns-clause-made : goal.returns-clause-made
returns-clause-made g c =
    let i = c.lane.inside in
    let is = sym c.lane.view_is in
    let seat = c.lane.invariant in
    let a = c.args in
    let may = g.A.Facts.may_do a.self.now.app in
    let d = c.carrier.inside in
    let carried = c.carrier.invariant in
    let n = c.join_seat.new.seat.me in
    let o = the_owed d.seat.me.0.owes in
    let none : i.seat.me.0.owes ≡ None = ap (λ (v : LaneView). v.owes) c.lane.view_is ∙ c.requires.free.0 in
    let t = took_in i.seat.table_id i.name i.hand i.owes (Some o) i.own i.seat.me d.seat.me n seat carried.passive c.join_seat.ensures.2 in
    let k = loaded_seat i.seat.table_id c.join_seat.new.seat.table_id i.name i.hand i.owes d.item o i.own i.seat.me d.seat.me n seat carried.passive c.join_seat.ensures.2 none c.join_seat.ensures.0 in
    let counted : IsCounted o.pending = subst (λ (p : CarrierView). IsCounted p.owed.pending) (sym c.carrier.view_is) c.requires.item.0 in
    let knows = learnt a.self.now.ranks a.self.now.workers a.self.now.program may (mark i.name (numbered c.load_event.result (took (the_owed n.0.owes).pending)) None) n.0 c.load_event.new.seat.me.0 d.seat.me.0.seen (ap (λ (v : View). v.told) t) c.load_event.ensures.1.0 in
    subst (λ (p : CarrierView). Made p.owed c.load_event.new.seat.me.0.seen) c.carrier.view_is (made_begins o d.seat.me.0.seen c.load_event.new.seat.me.0.seen knows (from_made o d.seat.me.0.seen o.pending counted carried.origin))
