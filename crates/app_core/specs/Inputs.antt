-- Which inputs fit a unit, and which are right for it.
use Rattle.std.specs.Prelude.{◌≡◌, ℕ, List, [], ◌∷◌, length, Option, Some, None, ⊤}
use Rattle.app_core.specs.declared.label.Label.{Label}
use Rattle.app_core.specs.declared.label.CellName.{CellName}
use Rattle.app_core.specs.Given.{Given}

-- there is one value for each need, and one cell for each entry that is read
pub record Fits {V C : Type 0} (needs : List Label) (reads : List CellName) (given : Given V C) : Type 0 where
  pub values : length given.values ≡ length needs
  pub cells : length given.cells ≡ length reads

-- each of the things is right for the name at its place, and there are as many
abbrev pub AreRight : {N T : Type 0} → (N → T → Type 0) → List N → List T → Type 0
AreRight right [] [] = ⊤
AreRight right [] (x ∷ xs) = ⊥
AreRight right (n ∷ ns) [] = ⊥
AreRight right (n ∷ ns) (x ∷ xs) = right n x × AreRight right ns xs

-- the number is a right size for the rank, where a version is counted; else it is 0
abbrev pub IsRightSize : (ℕ → ℕ → ℕ → Type 0) → ℕ → Option ℕ → ℕ → Type 0
IsRightSize right rank None size = size ≡ 0
IsRightSize right rank (Some version) size = right rank version size

-- the inputs are right for a unit with these needs, reads and counted version, which runs at this rank
pub record AreRightInputs {V C : Type 0} (value : Label → V → Type 0) (cell : CellName → C → Type 0) (number : ℕ → ℕ → ℕ → Type 0)
    (needs : List Label) (reads : List CellName) (counts : Option ℕ) (home : ℕ) (given : Given V C) : Type 0 where
  pub values : AreRight value needs given.values
  pub cells : AreRight cell reads given.cells
  pub size : IsRightSize number home counts given.size
