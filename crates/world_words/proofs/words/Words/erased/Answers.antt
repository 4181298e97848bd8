use Rattle.std.proofs.Common.{rules, ◌≡◌, ℕ, ◌-◌, ◌<◌, ◌^◌, true, false, List, ◌∷◌, length, refl, sym, ap, subst, inr, ◌∙◌}
use Rattle.std.specs.Prelude.{Option, Some, None}
use Rattle.atomic_table.specs.Table.{Allows}
use Rattle.app_core.specs.declared.outline.Outline.TheVariants as of
use Rattle.event_lists.specs.declared.event.Event.{Event}
use Rattle.event_lists.specs.declared.event.Event.TheVariants.{Erased}
use Rattle.event_lists.specs.declared.mark.EffectName.{EffectName}
use Rattle.event_lists.specs.declared.lane.LaneName.{LaneName}
use Rattle.event_lists.specs.Events.{in_hand, part}
use Rattle.event_lists.specs.Bins.{is_put}
use Rattle.event_lists.specs.Legal.{Legal}
use Rattle.event_laws.specs.Follows.{Doing, Follows, IsRun, program_from, bin_of}
use Rattle.world_rule.specs.declared.view.Pending.TheVariants.{Drawn}
use Rattle.world_rule.specs.declared.view.Load.TheVariants.{OfEffect}
use Rattle.world_rule.specs.declared.view.Owed.{Owed}
use Rattle.world_rule.specs.declared.view.View.{View}
use Rattle.event_lists.proofs.FenceLemmas.{receipt_lasts}
use Rattle.world_rule.specs.Owing.{owed, effect_in}
use Rattle.world_rule.specs.Views.{mark, first_of}
use Rattle.world_rule.specs.Shows.{ShowsOneRun}
use Rattle.world_rule.specs.Steps.{Appends}
use Rattle.world_rule.proofs.SeatLemmas.{unites}
use Rattle.world_rule.proofs.TaskEndLemmas.{stores_one}
use Rattle.world_words.specs.Lanes.{WordsView, LaneView, CarrierView, Grew}
use Rattle.world_words.specs.Seats.{the_owed}
use Rattle.world_words.proofs.LaneSeatLemmas.{lane_view, lane_room, grew, took_in, loaded_seat, loaded_view, grew_unloaded, learnt}
use Rattle.world_words.proofs.words.Words.erased.Goals as goal

pub join_seat-requires : goal.join_seat-requires
join_seat-requires g c = (search rules, search rules, search rules, search rules, unites _ _ _ _ _ _ _ _)

pub load_event-requires-clause-step : goal.load_event-requires-clause-step
load_event-requires-clause-step g c =
    let i = c.lane.inside in
    let is = sym c.lane.view_is in
    let seat = c.lane.invariant in
    let a = c.args in
    let may = g.A.Facts.may_do a.self.now.app in
    let d = c.carrier.inside in
    let carried = c.carrier.invariant in
    let n = c.join_seat.new.seat.me in
    let o = the_owed d.seat.me.0.owes in
    let none : i.seat.me.0.owes ≡ None = ap (λ (v : LaneView). v.owes) c.lane.view_is ∙ c.requires.free.0 in
    let t = took_in i.seat.table_id i.name i.hand i.owes (Some o) i.own i.seat.me d.seat.me n seat carried.passive c.join_seat.ensures.2 in
    let k = loaded_seat i.seat.table_id c.join_seat.new.seat.table_id i.name i.hand i.owes d.item o i.own i.seat.me d.seat.me n seat carried.passive c.join_seat.ensures.2 none c.join_seat.ensures.0 in
    let app = a.self.now.app in
    let e = c.requires.effect in
    let room = lane_room _ _ _ _ _ _ seat (subst (λ (v : LaneView). 0 < v.spare) is c.requires.room) in
    let idle = subst (λ (v : LaneView). in_hand v.mine ≡ None) is c.requires.free.1 in
    let bin = subst (λ (v : LaneView). v.name ≡ bin_of v.name.rank a.name) is c.requires.bin in
    let rank = ap (λ (v : LaneView). v.name.rank) c.lane.view_is in
    let carries : o ≡ owed (Drawn e.0) i.name.rank (OfEffect (of.Erase a.name)) = ap (λ (p : CarrierView). p.owed) c.carrier.view_is ∙ e.1 ∙ ap (λ (q : ℕ). owed (Drawn e.0) q (OfEffect (of.Erase a.name))) (sym rank) in
    let owes : n.0.owes ≡ Some (owed (Drawn e.0) i.name.rank (OfEffect (of.Erase a.name))) = k.3 ∙ ap Some carries in
    let full : List Doing = program_from 1 (g.A.Facts.kinds_of app) (g.A.Facts.starts_of app) in
    let is_program : a.self.now.program ≡ full = sym (ap (λ (v : WordsView _). v.program) c.self.view_is) ∙ ap (λ z. program_from 1 (g.A.Facts.kinds_of z) (g.A.Facts.starts_of z)) (ap (λ (v : WordsView _). v.app) c.self.view_is) in
    subst (λ (f : Option EffectName). Allows (ShowsOneRun a.self.now.ranks a.self.now.workers a.self.now.program may) a.self.now.table.slots c.join_seat.new.seat.id n 0 (λ m. m) (Appends a.self.now.ranks a.self.now.workers a.self.now.program may i.name (Erased a.name) f n)) (sym (ap (λ q. effect_in (the_owed q).pending) owes))
    (stores_one a.self.now.ranks a.self.now.workers a.self.now.program may _ _ n i.name _ k.1 (subst (λ (es : List Event). length es < 2 ^ 48) (sym k.2) room) k.0 false e.0 a.name owes (ap in_hand k.2 ∙ idle) bin
    (λ te log os legal follows plan at left same.
    let runs : Follows full may te log = subst (λ (z : List Doing). Follows z may te log) is_program follows in
    let run : IsRun (g.A.Facts.ranks_of app) a.self.now.workers full may te log = record { legal = subst (λ (z : ℕ). Legal z a.self.now.workers log) c.requires.ranks legal; follows = runs } in
    subst (λ (l : LaneName). is_put a.name (part l log) ≡ true) (ap (λ (q : ℕ). bin_of q a.name) same ∙ sym bin)
    (c.an_entry_to_erase_is_present.ensures full te log runs.goes (g.met.A.ListLaws.erases_apart app te log a.self.now.workers run) (g.met.A.ListLaws.erases_put app te log a.self.now.workers run) e.0.rank e.0.number e.0.index os a.name plan at left)))

pub returns-clause-grew : goal.returns-clause-grew
returns-clause-grew g c =
    let i = c.lane.inside in
    let is = sym c.lane.view_is in
    let seat = c.lane.invariant in
    let a = c.args in
    let may = g.A.Facts.may_do a.self.now.app in
    let d = c.carrier.inside in
    let carried = c.carrier.invariant in
    let n = c.join_seat.new.seat.me in
    let o = the_owed d.seat.me.0.owes in
    let none : i.seat.me.0.owes ≡ None = ap (λ (v : LaneView). v.owes) c.lane.view_is ∙ c.requires.free.0 in
    let t = took_in i.seat.table_id i.name i.hand i.owes (Some o) i.own i.seat.me d.seat.me n seat carried.passive c.join_seat.ensures.2 in
    let k = loaded_seat i.seat.table_id c.join_seat.new.seat.table_id i.name i.hand i.owes d.item o i.own i.seat.me d.seat.me n seat carried.passive c.join_seat.ensures.2 none c.join_seat.ensures.0 in
    let s = c.load_event.ensures in
    let owes : Option Owed = first_of i.seat.me.0.owes (Some o) in
    let view : lane_view c.join_seat.new.seat.table_id i.name i.own n ≡ record a.lane.now { owes = owes } =
    loaded_view i.seat.table_id c.join_seat.new.seat.table_id i.name i.own i.seat.me n d.seat.me.0.seen owes t c.join_seat.ensures.0 ∙ ap (λ (v : LaneView). record v { owes = owes }) c.lane.view_is in
    let effect : effect_in (the_owed n.0.owes).pending ≡ effect_in a.carrier.owed.pending = ap (λ q. effect_in (the_owed q).pending) k.3 ∙ ap (λ (p : CarrierView). effect_in p.owed.pending) c.carrier.view_is in
    subst (λ (f : Option EffectName). Grew a.self.now may (Erased a.name) f a.lane.now (lane_view c.load_event.new.seat.table_id i.name c.erased.new.self c.load_event.new.seat.me)) effect
    (grew_unloaded a.self.now may (Erased a.name) (effect_in (the_owed n.0.owes).pending) owes a.lane.now (lane_view c.load_event.new.seat.table_id i.name c.erased.new.self c.load_event.new.seat.me) (grew a.self.now may i.name (Erased a.name) (effect_in (the_owed n.0.owes).pending) n c.load_event.result c.load_event.new.seat.me c.join_seat.new.seat.table_id c.load_event.new.seat.table_id i.own c.erased.new.self (record a.lane.now { owes = owes }) view c.requires.room s.0 s.1 c.erased.ensures))

pub returns-clause-learnt : goal.returns-clause-learnt
returns-clause-learnt g c =
    let i = c.lane.inside in
    let is = sym c.lane.view_is in
    let seat = c.lane.invariant in
    let a = c.args in
    let may = g.A.Facts.may_do a.self.now.app in
    let d = c.carrier.inside in
    let carried = c.carrier.invariant in
    let n = c.join_seat.new.seat.me in
    let o = the_owed d.seat.me.0.owes in
    let none : i.seat.me.0.owes ≡ None = ap (λ (v : LaneView). v.owes) c.lane.view_is ∙ c.requires.free.0 in
    let t = took_in i.seat.table_id i.name i.hand i.owes (Some o) i.own i.seat.me d.seat.me n seat carried.passive c.join_seat.ensures.2 in
    let k = loaded_seat i.seat.table_id c.join_seat.new.seat.table_id i.name i.hand i.owes d.item o i.own i.seat.me d.seat.me n seat carried.passive c.join_seat.ensures.2 none c.join_seat.ensures.0 in
    learnt a.self.now.ranks a.self.now.workers a.self.now.program may (mark i.name (Erased a.name) (effect_in (the_owed n.0.owes).pending)) n.0 c.load_event.new.seat.me.0 a.carrier.seen (ap (λ (v : View). v.told) t ∙ ap (λ (p : CarrierView). p.seen) c.carrier.view_is) c.load_event.ensures.1.0

pub returns-clause-kept : goal.returns-clause-kept
returns-clause-kept g c = λ fence received dropped.
    let a = c.args in
    let app = a.self.now.app in
    let may = g.A.Facts.may_do app in
    let r = returns-clause-grew g c in
    let full : List Doing = program_from 1 (g.A.Facts.kinds_of app) (g.A.Facts.starts_of app) in
    let is_program : a.self.now.program ≡ full = sym (ap (λ (v : WordsView _). v.program) c.self.view_is) ∙ ap (λ z. program_from 1 (g.A.Facts.kinds_of z) (g.A.Facts.starts_of z)) (ap (λ (v : WordsView _). v.app) c.self.view_is) in
    let x = mark a.lane.now.name (Erased a.name) (effect_in a.carrier.owed.pending) in
    let te = r.sees.run.0 in
    let run : IsRun a.self.now.ranks a.self.now.workers a.self.now.program may te (x ∷ r.before) = subst (IsRun a.self.now.ranks a.self.now.workers a.self.now.program may te) r.now r.sees.run.1 in
    let here : IsRun (g.A.Facts.ranks_of app) a.self.now.workers full may te (x ∷ r.before) = subst (λ (z : ℕ × List Doing). IsRun z.0 a.self.now.workers z.1 may te (x ∷ r.before)) (λ j. (c.requires.ranks j, is_program j)) run in
    c.nothing_dropped_is_written.ensures app a.self.now.workers te r.before x here a.name (inr refl) fence (receipt_lasts a.lane.now.seen r.before r.knew fence received) dropped
