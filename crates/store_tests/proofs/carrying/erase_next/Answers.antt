use Rattle.std.proofs.Common.{◌≡◌, sym, ap, ◌∙◌}
use Rattle.std.specs.Prelude.{Some, slice_get}
use Rattle.app_core.specs.declared.outline.Outline.TheVariants as of
use Rattle.event_lists.specs.declared.lane.LaneName.{LaneName}
use Rattle.event_lists.specs.declared.event.Event.TheVariants.{Erased}
use Rattle.world_rule.specs.declared.view.Pending.TheVariants.{Drawn}
use Rattle.world_rule.specs.declared.view.Load.TheVariants.{OfEffect}
use Rattle.world_rule.specs.declared.view.Owed.{Owed}
use Rattle.world_rule.specs.Owing.{owed, effect_in}
use Rattle.world_rule.specs.Views.{progress, next_effect}
use Rattle.world_words.specs.Lanes.{LaneView}
use Rattle.store_tests.proofs.CarryingLemmas.{same_place, drawn_is_done, stored}
use Rattle.store_tests.proofs.carrying.erase_next.Goals as goal

pub erased-requires-clause-effect : goal.erased-requires-clause-effect
erased-requires-clause-effect g c =
    let given = c.requires.hand in
    let o = of.Erase c.args.name in
    let b = progress 0 given.2.number given.0 given.1 in
    let rank : c.reserve.new.lane.name.rank ≡ 0 = ap (λ (z : LaneView). z.name.rank) c.in_ok-reserve.ensures.room ∙ ap (λ (l : LaneName). l.rank) c.requires.bin.1 in
    (next_effect b, c.draw-carrier.ensures.owed b o given.2.far given.3 ∙ (λ i. owed (Drawn (next_effect b)) (sym rank i) (OfEffect o)))

pub returns-clause-hand : goal.returns-clause-hand
returns-clause-hand g c os at k =
    let w = c.args.words.now in
    let given = c.requires.hand in
    let o = of.Erase c.args.name in
    let v = c.args.hand.now in
    let here : slice_get os at ≡ Some o = same_place w os given.0 at given.1 v o k given.2 given.3 in
    let grew = c.erased.ensures.grew in
    stored w _ os at v c.draw-carrier.new.lane c.learn.new.lane c.tell-news.result.seen k c.draw-carrier.ensures.lane c.draw-carrier.ensures.sees.seen c.learn.ensures.lane c.learn.ensures.sees c.learn.ensures.learnt
    (λ n far. drawn_is_done n at c.reserve.new.lane.name (Erased c.args.name) (effect_in c.draw-carrier.result.owed.pending) grew.before c.tell-news.result.seen (c.tell-news.ensures.told.1 ∙ grew.now)
    (ap (λ (z : Owed). effect_in z.pending) (c.draw-carrier.ensures.owed (progress 0 n os at) o far here)))
