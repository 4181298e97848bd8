-- The binary tree of ranks: rank 0 is its root, and the children of rank r are the ranks 2 r + 1 and 2 r + 2.
use Rattle.std.specs.Prelude.{◌≡◌, ℕ, zero, suc, ◌-◌, ◌/◌}

-- the parent of a rank above 0
abbrev pub parent : ℕ → ℕ
parent q = (q - 1) / 2

-- n steps up from a rank; from rank 0 there is none up
abbrev pub ancestor : ℕ → ℕ → ℕ
ancestor zero q = q
ancestor (suc n) q = parent (ancestor n q)

-- q is in the subtree of r: it is r, or r is above it
abbrev pub IsInSubtree : ℕ → ℕ → Type 0
IsInSubtree r q = (n : ℕ) × (ancestor n q ≡ r)
