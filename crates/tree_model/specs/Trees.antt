-- Trees: a function as a list of its values at the cells of a depth, with a shape.
use Rattle.std.specs.Prelude.{◌≡◌, ℕ, ◌^◌, ◌≤◌, Bool, true, false, List, [], ◌∷◌, length, take, drop, ℤ, pos, ◌+ℤ◌, ◌-ℤ◌}
use Rattle.std.specs.List.{All, list_all, slice_get}
use Rattle.std.specs.Ordering.{int_eq}
use Rattle.std.specs.Int.RustNames.{unsigned_abs}
use Rattle.tree_key.specs.Keys.{Key, child, width, first_cell, InBox}
use Rattle.tree_model.specs.Functions.{max_value}
use Rattle.tree_model.specs.Shapes.{IsShape, is_leaf}

pub record Tree : Type 0 where
  pub depth : ℕ
  pub cells : List ℤ
  pub shape : Key → Bool

-- the list has a value for each cell, the shape is one, and the list is constant on the box of each leaf
pub record IsTree (t : Tree) : Type 0 where
  pub cells : length t.cells ≡ 2 ^ t.depth
  pub shape : IsShape t.depth t.shape
  pub constant : (leaf : Key) (cell : ℕ) → is_leaf t.shape leaf ≡ true → InBox t.depth leaf cell → slice_get t.cells cell ≡ slice_get t.cells (first_cell t.depth leaf)

-- every value is one that a cell may have
abbrev pub HasValues : Tree → Type 0
HasValues t = All (λ z. unsigned_abs z ≤ max_value) t.cells

-- the sum of a list
abbrev pub total : List ℤ → ℤ
total [] = pos 0
total (z ∷ zs) = z +ℤ total zs

-- the values on the box of a key, and their sum
abbrev pub box_values : Tree → Key → List ℤ
box_values t k = take (width t.depth k) (drop (first_cell t.depth k) t.cells)

abbrev pub box_sum : Tree → Key → ℤ
box_sum t k = total (box_values t k)

-- whether a list has one value throughout, and whether the values on the box of a key are all the same
abbrev pub has_one_value : List ℤ → Bool
has_one_value [] = true
has_one_value (z ∷ zs) = list_all (int_eq z) zs

abbrev pub is_constant : Tree → Key → Bool
is_constant t k = has_one_value (box_values t k)

-- the sum over the left half of a box less the sum over the right half
abbrev pub difference : Tree → Key → ℤ
difference t k = box_sum t (child k false) -ℤ box_sum t (child k true)
