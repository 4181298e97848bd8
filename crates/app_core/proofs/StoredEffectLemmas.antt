-- Stored effects stay what they are where labels are added after those there.
use Rattle.std.proofs.Common.{◌≡◌, ◌+◌, ◌≤◌, List, [], ◌∷◌, ◌++◌, map, take, drop, length, refl, arith, ap, ◌∙◌, length-append, length-drop}
use Rattle.std.proofs.lemmas.List.{take-append-le, drop-append-le}
use Rattle.std.proofs.lemmas.Grind.{common_steps}
use Rattle.std.specs.List.{AllByRecursion}
use Rattle.app_core.specs.declared.label.Label.{Label}
use Rattle.app_core.specs.declared.effect_with.Span.{Span}
use Rattle.app_core.specs.declared.effect_with.EffectWith.{EffectWith}
use Rattle.app_core.specs.declared.effect_with.EffectWith.TheVariants.{Spawn, SpawnNeeding, Give, Put, Erase}
use Rattle.app_core.specs.StoredEffects.{labels_in, stored_effect, IsStored}

labels_grown : (labels more : List Label) (span : Span) → span.from + span.count ≤ length labels → labels_in (labels ++ more) span ≡ labels_in labels span
labels_grown labels more span within =
    let before : span.from ≤ length labels = omega (arith, within) in
    let there : span.count ≤ length (drop span.from labels) = omega (arith, length-drop span.from labels, within) in
    ap (take span.count) (drop-append-le span.from labels more before) ∙ take-append-le span.count (drop span.from labels) more there

-- a span after the labels has those that are added
pub labels_last : (labels more : List Label) (span : Span) → span.from ≡ length labels → span.count ≡ length more → labels_in (labels ++ more) span ≡ more
labels_last labels more span from count = rw (from, count) (last labels more)
  where
    last : (labels more : List Label) → take (length more) (drop (length labels) (labels ++ more)) ≡ more
    last labels more = grind (arith, common_steps)

module _ {U V C : Type 0} where
  effect_grown : (labels more : List Label) (e : EffectWith U V C Span) → IsStored labels e → stored_effect (labels ++ more) e ≡ stored_effect labels e
  effect_grown labels more (Spawn u) is = refl
  effect_grown labels more (SpawnNeeding u span) is = rw (labels_grown labels more span is.0) refl
  effect_grown labels more (Give l v) is = refl
  effect_grown labels more (Put n c) is = refl
  effect_grown labels more (Erase n) is = refl

  stored_grown : (labels more : List Label) (e : EffectWith U V C Span) → IsStored labels e → IsStored (labels ++ more) e
  stored_grown labels more (Spawn u) is = is
  stored_grown labels more (SpawnNeeding u span) is =
      (omega (arith, length-append labels more, is.0), is.1, rw (labels_grown labels more span is.0) is.2)
  stored_grown labels more (Give l v) is = is
  stored_grown labels more (Put n c) is = is
  stored_grown labels more (Erase n) is = is

  -- the effects stay the same
  pub effects_grown : (labels more : List Label) (es : List (EffectWith U V C Span)) → AllByRecursion (IsStored labels) es → map (stored_effect (labels ++ more)) es ≡ map (stored_effect labels) es
  effects_grown labels more [] are = refl
  effects_grown labels more (e ∷ es) are = let here = effect_grown labels more e are.0 in let rest = effects_grown labels more es are.1 in cc

  -- they stay stored
  pub all_grown : (labels more : List Label) (es : List (EffectWith U V C Span)) → AllByRecursion (IsStored labels) es → AllByRecursion (IsStored (labels ++ more)) es
  all_grown labels more [] are = are
  all_grown labels more (e ∷ es) are = (stored_grown labels more e are.0, all_grown labels more es are.1)

  -- so do they with one more
  pub all_with_last : (labels : List Label) (es : List (EffectWith U V C Span)) (e : EffectWith U V C Span) → AllByRecursion (IsStored labels) es → IsStored labels e → AllByRecursion (IsStored labels) (es ++ e ∷ [])
  all_with_last labels [] e are is = (is, are)
  all_with_last labels (f ∷ fs) e are is = (are.0, all_with_last labels fs e are.1 is)
