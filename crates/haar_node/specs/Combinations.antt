-- What the combinations of nodes are given, and what they answer.
use Rattle.std.specs.Prelude.{◌≡◌, ℕ, ◌*◌, ◌≤◌, true, Some, ℤ, pos, int_div, int_rem}
use Rattle.std.specs.List.{slice_get}
use Rattle.std.specs.Int.RustNames.{unsigned_abs}
use Rattle.tree_key.specs.Keys.{Key, root, width, InBox}
use Rattle.tree_model.specs.Functions.{max_value}
use Rattle.tree_model.specs.Shapes.{is_leaf}
use Rattle.tree_model.specs.Trees.{Tree, IsTree, HasValues, box_sum}
use Rattle.tree_model.specs.Products.{inner_product, inner_part}

-- the sum over a leaf's box of this many cells: all have one value, within the limit of values
pub record IsLeafSum (sum : ℤ) (width : ℕ) : Type 0 where
  pub exact : int_rem sum (pos width) ≡ pos 0
  pub within : unsigned_abs sum ≤ width * max_value

-- the value at each of the cells
abbrev pub leaf_value : ℤ → ℕ → ℤ
leaf_value sum width = int_div sum (pos width)

-- the sum over a leaf of a tree that has values is such a sum, and the value is that of each cell of the leaf's box
abbrev pub LeavesGiveTheirValues : Type 0
LeavesGiveTheirValues =
    (t : Tree) (leaf : Key) (cell : ℕ) (value : ℤ) →
    IsTree t →
    HasValues t →
    is_leaf t.shape leaf ≡ true →
    InBox t.depth leaf cell →
    slice_get t.cells cell ≡ Some value →
    IsLeafSum (box_sum t leaf) (width t.depth leaf) × (leaf_value (box_sum t leaf) (width t.depth leaf) ≡ value)

-- the inner product of any two trees of this depth that have these sums, and whose differences add this much
abbrev pub IsInnerProduct : (sum other part : ℤ) (depth : ℕ) (answer : ℤ) → Type 0
IsInnerProduct sum other part depth answer =
    (f g : Tree) →
    IsTree f →
    IsTree g →
    f.depth ≡ depth →
    g.depth ≡ depth →
    sum ≡ box_sum f root →
    other ≡ box_sum g root →
    part ≡ inner_part f g root →
    answer ≡ inner_product f g
