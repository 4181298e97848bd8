use Rattle.std.proofs.Common.{◌≡◌, refl, sym, subst}
use Rattle.std.specs.Prelude.{Option, Some, None}
use Rattle.atomic_table.specs.Table.{Allows}
use Rattle.app_core.specs.Outlines.{outlines}
use Rattle.event_lists.specs.declared.mark.Item.{Item}
use Rattle.event_lists.specs.declared.mark.Item.TheVariants.{Task}
use Rattle.event_lists.specs.Events.{in_hand, IsSubmitted}
use Rattle.event_laws.specs.Follows.{since}
use Rattle.world_rule.specs.Views.{own_events, begun, after_begin}
use Rattle.world_rule.specs.Shows.{ShowsOneRun}
use Rattle.world_rule.specs.Steps.{BeginsTask}
use Rattle.world_rule.proofs.LookLemmas.{begins}
use Rattle.world_words.specs.Lanes.{LaneView}
use Rattle.world_words.proofs.LaneSeatLemmas.{sees_more, looked_seat}
use Rattle.world_words.proofs.words.Words.begin.Goals as goal

pub begin_as-requires-clause-step : goal.begin_as-requires-clause-step
begin_as-requires-clause-step g c =
    let i = c.lane.inside in
    let is = sym c.lane.view_is in
    let seat = c.lane.invariant in
    let a = c.args in
    let may = g.A.Facts.may_do a.self.now.app in
    let t = c.requires.task in
    let hand : in_hand (own_events i.seat.me.0.parts) ≡ Some (Task t.0 t.1) = subst (λ (v : LaneView). in_hand v.mine ≡ Some (Task t.0 t.1)) is t.3 in
    let os = outlines (g.A.App.label_of a.self.now.app) (g.A.App.due_of a.self.now.app) (g.A.App.home_of a.self.now.app) (g.A.App.kept_at a.self.now.app) a.self.now.ranks a.effects.now in
    λ κs within. subst (λ (h : Option Item). Allows (ShowsOneRun a.self.now.ranks a.self.now.workers a.self.now.program may) a.self.now.table.slots i.seat.id i.seat.me 0 (λ n. n) (λ n w. BeginsTask a.self.now.ranks a.self.now.workers a.self.now.program may (begun h os) i.seat.me w)) (sym hand)
    (begins a.self.now.ranks a.self.now.workers a.self.now.program may _ _ i.seat.me i.name _ seat.alone t.0 t.1 t.2 os hand
    (subst (λ (v : LaneView). since v.mine ≡ 0) is c.requires.new.1)
    (subst (λ (v : LaneView). v.progress ≡ None) is c.requires.new.0)
    (subst (λ (v : LaneView). IsSubmitted t.0 t.1 t.2 v.seen) is t.4)
    t.5)

pub invariant_of-lane : goal.invariant_of-lane
invariant_of-lane g c =
    let i = c.lane.inside in
    let is = sym c.lane.view_is in
    let seat = c.lane.invariant in
    let a = c.args in
    let may = g.A.Facts.may_do a.self.now.app in
    let s = c.begin_as.ensures in
    looked_seat a.self.now may i.name i.own i.seat.table_id c.begin_as.new.seat.table_id i.hand i.owes i.seat.me c.begin_as.new.seat.me (after_begin (begun (in_hand (own_events i.seat.me.0.parts)) (outlines (g.A.App.label_of a.self.now.app) (g.A.App.due_of a.self.now.app) (g.A.App.home_of a.self.now.app) (g.A.App.kept_at a.self.now.app) a.self.now.ranks a.effects.now)) i.seat.me.0) seat s.0 s.1.1 refl refl s.1.0

pub returns-clause-sees : goal.returns-clause-sees
returns-clause-sees g c =
    let i = c.lane.inside in
    let is = sym c.lane.view_is in
    let seat = c.lane.invariant in
    let a = c.args in
    let may = g.A.Facts.may_do a.self.now.app in
    let s = c.begin_as.ensures in
    sees_more a.self.now may i.name i.own i.seat.table_id c.begin_as.new.seat.table_id i.hand i.owes i.seat.me c.begin_as.new.seat.me (after_begin (begun (in_hand (own_events i.seat.me.0.parts)) (outlines (g.A.App.label_of a.self.now.app) (g.A.App.due_of a.self.now.app) (g.A.App.home_of a.self.now.app) (g.A.App.kept_at a.self.now.app) a.self.now.ranks a.effects.now)) i.seat.me.0) a.lane.now seat refl c.lane.view_is s.1.0
