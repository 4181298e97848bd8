-- Which effect one is that is stored beside a list of labels, or that lends the labels of its needs.
use Rattle.std.specs.Prelude.{◌+◌, ◌≤◌, List, [], ◌∷◌, take, drop, length, ⊤, Option, Some, None}
use Rattle.std.specs.Borrow.{Bor}
use Rattle.app_core.specs.declared.label.Label.{Label}
use Rattle.app_core.specs.declared.effect.Effect.{Effect}
use Rattle.app_core.specs.declared.effect.Effect.TheVariants as full
use Rattle.app_core.specs.declared.effect_with.Span.{Span}
use Rattle.app_core.specs.declared.effect_with.EffectWith.{EffectWith}
use Rattle.app_core.specs.declared.effect_with.EffectWith.TheVariants.{Spawn, SpawnNeeding, Give, Put, Erase}
use Rattle.app_core.specs.Needs.{AreDistinct, max_needs}

-- the labels of a span
abbrev pub labels_in : List Label → Span → List Label
labels_in labels span = take span.count (drop span.from labels)

-- the effect, where it is known what tells the labels of needs
abbrev pub effect_of : {U V C L : Type 0} → (L → List Label) → EffectWith U V C L → Effect U V C
effect_of needs (Spawn u) = full.Spawn u
effect_of needs (SpawnNeeding u l) = full.SpawnNeeding u (needs l)
effect_of needs (Give l v) = full.Give l v
effect_of needs (Put n c) = full.Put n c
effect_of needs (Erase n) = full.Erase n

module _ {U V C : Type 0} where
  -- the effect that is stored beside these labels
  abbrev pub stored_effect : List Label → EffectWith U V C Span → Effect U V C
  stored_effect labels = effect_of (labels_in labels)

  -- its labels are in the list, and are needs
  abbrev pub IsStored : List Label → EffectWith U V C Span → Type 0
  IsStored labels (Spawn u) = ⊤
  IsStored labels (SpawnNeeding u span) = (span.from + span.count ≤ length labels) × (span.count ≤ max_needs) × AreDistinct (labels_in labels span)
  IsStored labels (Give l v) = ⊤
  IsStored labels (Put n c) = ⊤
  IsStored labels (Erase n) = ⊤

  -- the effect that was taken out, if one was
  abbrev pub lent_effects : Option (EffectWith U V C (Bor (List Label))) → List (Effect U V C)
  lent_effects None = []
  lent_effects (Some e) = effect_of (λ l. l.now) e ∷ []

  -- the labels that it lends are needs
  abbrev pub HasNeeds : EffectWith U V C (Bor (List Label)) → Type 0
  HasNeeds (Spawn u) = ⊤
  HasNeeds (SpawnNeeding u l) = (length l.now ≤ max_needs) × AreDistinct l.now
  HasNeeds (Give l v) = ⊤
  HasNeeds (Put n c) = ⊤
  HasNeeds (Erase n) = ⊤
