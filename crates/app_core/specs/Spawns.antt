-- What one bringer spawns: the starts of a command, or the effects of a step.
use Rattle.std.specs.Prelude.{◌≡◌, ℕ, true, List, Some, slice_get}
use Rattle.app_core.specs.declared.label.Label.{Label}
use Rattle.app_core.specs.declared.outline.Outline.{Outline}
use Rattle.app_core.specs.Outlines.{has_due, has_need}

-- no two of the spawns have one due or need one future, and what one needs is the due of one
pub record AreApart (os : List Outline) : Type 0 where
  pub dues : (i j : ℕ) (a b : Outline) (l : Label) → slice_get os i ≡ Some a → slice_get os j ≡ Some b → has_due l a ≡ true → has_due l b ≡ true → i ≡ j
  pub needs : (i j : ℕ) (a b : Outline) (l : Label) → slice_get os i ≡ Some a → slice_get os j ≡ Some b → has_need l a ≡ true → has_need l b ≡ true → i ≡ j
  pub met : (i : ℕ) (a : Outline) (l : Label) → slice_get os i ≡ Some a → has_need l a ≡ true → (j : ℕ) × (b : Outline) × (slice_get os j ≡ Some b) × (has_due l b ≡ true)
