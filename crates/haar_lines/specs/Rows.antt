-- Rows of bytes, each made of pieces.
use Rattle.std.specs.Prelude.{ℕ, zero, suc, ◌+◌, List, [], ◌∷◌, ◌++◌}
use Rattle.std.specs.List.{flat_map}

-- the bytes of a row, piece by piece
abbrev pub row_bytes : List (List ℕ) → List ℕ
row_bytes pieces = flat_map (λ piece. piece) pieces

-- bytes, and those of a row after them
abbrev pub joined_rows : List ℕ → List (List ℕ) → List ℕ
joined_rows before pieces = before ++ row_bytes pieces

-- a row added to the one at a place, or after the last
abbrev pub row_put : {A : Type 0} → List (List A) → ℕ → List A → List (List A)
row_put [] at other = other ∷ []
row_put (row ∷ rows) zero other = (row ++ other) ∷ rows
row_put (row ∷ rows) (suc at) other = row ∷ row_put rows at other

-- rows added to those from a place on, level by level
abbrev pub rows_put : {A : Type 0} → List (List A) → ℕ → List (List A) → List (List A)
rows_put rows at [] = rows
rows_put rows at (other ∷ others) = rows_put (row_put rows at other) (at + 1) others

abbrev pub beside : {A : Type 0} → List (List A) → List (List A) → List (List A)
beside left right = rows_put left 0 right
