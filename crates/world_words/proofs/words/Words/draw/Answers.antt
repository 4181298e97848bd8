use Rattle.std.proofs.Common.{rules, ◌≡◌, ◌⊎◌, sym, subst}
use Rattle.std.specs.Prelude.{Some}
use Rattle.app_core.specs.declared.outline.Outline.TheVariants as of
use Rattle.world_rule.specs.Views.{next_outline}
use Rattle.world_rule.proofs.SeatLemmas.{packs}
use Rattle.world_rule.proofs.LookLemmas.{draws}
use Rattle.world_words.specs.Lanes.{LaneView}
use Rattle.world_words.specs.Seats.{the_task, the_outline}
use Rattle.world_words.proofs.LaneSeatLemmas.{stored_next, drew_carrier}
use Rattle.world_words.proofs.words.Words.draw.Goals as goal

pub draw_as-requires-clause-step : goal.draw_as-requires-clause-step
draw_as-requires-clause-step g c =
    let i = c.lane.inside in
    let is = sym c.lane.view_is in
    let seat = c.lane.invariant in
    let a = c.args in
    let may = g.A.Facts.may_do a.self.now.app in
    let b = the_task i.seat.me.0.progress in
    let o = the_outline (next_outline i.seat.me.0.progress) in
    let next = subst (λ (v : LaneView). (next_outline v.progress ≡ Some (of.Put a.name)) ⊎ (next_outline v.progress ≡ Some (of.Erase a.name))) is c.requires.next in
    let stored = stored_next a.name i.seat.me.0.progress next in
    draws a.self.now.ranks a.self.now.workers a.self.now.program may _ _ i.seat.me i.name _ seat.alone b o stored.0 stored.1 stored.2

pub invariant_of-result : goal.invariant_of-result
invariant_of-result g c =
    let i = c.lane.inside in
    let is = sym c.lane.view_is in
    let seat = c.lane.invariant in
    let a = c.args in
    let may = g.A.Facts.may_do a.self.now.app in
    let b = the_task i.seat.me.0.progress in
    let o = the_outline (next_outline i.seat.me.0.progress) in
    let next = subst (λ (v : LaneView). (next_outline v.progress ≡ Some (of.Put a.name)) ⊎ (next_outline v.progress ≡ Some (of.Erase a.name))) is c.requires.next in
    let stored = stored_next a.name i.seat.me.0.progress next in
    drew_carrier a.self.now.ranks a.self.now.workers a.self.now.program may b o i.name i.seat.me c.draw_as.new.seat.me c.split_seat-seat.result.me i.seat.table_id i.hand i.owes i.own seat stored.0 stored.2 c.draw_as.ensures.1.0 c.split_seat-seat.ensures.4

pub split_seat-seat-requires : goal.split_seat-seat-requires
split_seat-seat-requires g c = (search rules, search rules, packs _ _ _ _ _ _)
