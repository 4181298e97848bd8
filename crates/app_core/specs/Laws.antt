-- What holds of the definitions on outlines.
use Rattle.std.specs.Prelude.{◌≡◌, ℕ, ◌<◌, ◌≤◌, ◌↔◌, Bool, true, false, List, Option, Some, slice_get, count_by, Contains}
use Rattle.app_core.specs.declared.label.Label.{Label}
use Rattle.app_core.specs.declared.label.CellName.{CellName}
use Rattle.app_core.specs.declared.outline.Outline.{Outline}
use Rattle.app_core.specs.Homes.{rank_within}
use Rattle.app_core.specs.Outlines.{same_label, named, Names, touched, Touches}

-- the test of two labels passes exactly where they are equal
abbrev pub LabelsAreTold : Type 0
LabelsAreTold = (a b : Label) → (same_label a b ≡ true) ↔ (a ≡ b)

-- where exactly one outline passes a test, there is one
abbrev pub CountedIsThere : Type 0
CountedIsThere = (test : Outline → Bool) (os : List Outline) → count_by test os ≡ 1 → (i : ℕ) × (o : Outline) × (slice_get os i ≡ Some o) × (test o ≡ true)

-- and any two that pass are at one position
abbrev pub CountedIsOne : Type 0
CountedIsOne = (test : Outline → Bool) (os : List Outline) (i j : ℕ) (a b : Outline) → count_by test os ≡ 1
    → slice_get os i ≡ Some a → test a ≡ true → slice_get os j ≡ Some b → test b ≡ true → i ≡ j

-- where none passes, each fails
abbrev pub UncountedFails : Type 0
UncountedFails = (test : Outline → Bool) (os : List Outline) (i : ℕ) (o : Outline) → count_by test os ≡ 0 → slice_get os i ≡ Some o → test o ≡ false

-- what an outline names is named, and what it touches is touched
abbrev pub NamesAtAPlace : Type 0
NamesAtAPlace = (os : List Outline) (i : ℕ) (o : Outline) (l : Label) → slice_get os i ≡ Some o → Contains (named o) l → Names os l

abbrev pub TouchesAtAPlace : Type 0
TouchesAtAPlace = (os : List Outline) (i : ℕ) (o : Outline) (n : CellName) → slice_get os i ≡ Some o → Contains (touched o) n → Touches os n

-- a rule gives a rank that is there
abbrev pub RuleGivesARank : Type 0
RuleGivesARank = (ranks : ℕ) (rule : Option ℕ) → 1 ≤ ranks → rank_within ranks rule < ranks
