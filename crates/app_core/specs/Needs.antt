-- The needs of a unit: a short list of labels, kept in an array of sixteen.
use Rattle.std.specs.Prelude.{◌≡◌, ◌≢◌, ℕ, ◌-◌, ◌≤◌, List, length, take, drop, replicate, AllPairs}
use Rattle.app_core.specs.declared.label.Label.{Label}

-- how many needs a unit has at most
abbrev pub max_needs : ℕ
max_needs = 16

-- what fills the positions after the labels
abbrev pub nothing : Label
nothing = record { command = 0; part = 0; place = 0 }

-- no two of them are equal
abbrev pub AreDistinct : List Label → Type 0
AreDistinct xs = AllPairs (λ x y. x ≢ y) xs

-- what an array and a count of labels keep
pub record AreNeeds (labels : List Label) (count : ℕ) : Type 0 where
  pub size : length labels ≡ 16
  pub within : count ≤ 16
  pub filled : drop count labels ≡ replicate (16 - count) nothing
  pub distinct : AreDistinct (take count labels)
