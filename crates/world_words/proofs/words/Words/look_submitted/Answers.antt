use Rattle.std.proofs.Common.{◌≡◌, ◌+◌, ◌*◌, ◌≤◌, refl, sym, ap, subst, ◌∙◌}
use Rattle.atomic_table.specs.Seated.{TableId}
use Rattle.event_lists.specs.declared.kind.Kind.TheVariants.{Submissions as submissions}
use Rattle.world_rule.specs.Views.{after_look}
use Rattle.world_rule.specs.CounterWords.{word_count}
use Rattle.world_rule.proofs.LookLemmas.{sees_count}
use Rattle.world_words.specs.Lanes.{WordsView, LaneView}
use Rattle.world_words.proofs.LaneSeatLemmas.{sees_more, looked_seat, rank_below}
use Rattle.world_words.proofs.words.Words.look_submitted.Goals as goal

pub look_submitted_as-requires-clause-step : goal.look_submitted_as-requires-clause-step
look_submitted_as-requires-clause-step g c =
    let i = c.lane.inside in
    let is = sym c.lane.view_is in
    let seat = c.lane.invariant in
    let a = c.args in
    let may = g.A.Facts.may_do a.self.now.app in
    sees_count a.self.now.ranks a.self.now.workers a.self.now.program may _ _ i.seat.me submissions i.name.rank (rank_below a.self.now.ranks i.name.rank a.self.now.table (subst (λ (z : TableId). 16 * i.name.rank + 48 ≤ z.words) (ap (λ (v : LaneView). v.table) c.lane.view_is ∙ c.requires.table) seat.words) (subst (λ (w : WordsView _). w.table.words ≡ word_count w.ranks) c.self.view_is (c.self.invariant.0 ∙ ap word_count (sym c.self.invariant.1))))

pub invariant_of-lane : goal.invariant_of-lane
invariant_of-lane g c =
    let i = c.lane.inside in
    let is = sym c.lane.view_is in
    let seat = c.lane.invariant in
    let a = c.args in
    let may = g.A.Facts.may_do a.self.now.app in
    let s = c.look_submitted_as.ensures in
    looked_seat a.self.now may i.name i.own i.seat.table_id c.look_submitted_as.new.seat.table_id i.hand i.owes i.seat.me c.look_submitted_as.new.seat.me (after_look submissions i.name.rank c.look_submitted_as.result i.seat.me.0) seat s.0 s.1.2 refl refl s.1.0

pub returns-clause-sees : goal.returns-clause-sees
returns-clause-sees g c =
    let i = c.lane.inside in
    let is = sym c.lane.view_is in
    let seat = c.lane.invariant in
    let a = c.args in
    let may = g.A.Facts.may_do a.self.now.app in
    let s = c.look_submitted_as.ensures in
    sees_more a.self.now may i.name i.own i.seat.table_id c.look_submitted_as.new.seat.table_id i.hand i.owes i.seat.me c.look_submitted_as.new.seat.me (after_look submissions i.name.rank c.look_submitted_as.result i.seat.me.0) a.lane.now seat refl c.lane.view_is s.1.0
