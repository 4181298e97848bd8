-- What holds of the definitions, as one statement each.
use Rattle.std.specs.Prelude.{◌≡◌, ℕ, ◌+◌, ◌^◌, ◌<◌, ◌≤◌, true, false, [], ◌∷◌, ◌++◌, map, ℤ, pos, ◌+ℤ◌, ◌*ℤ◌, Some}
use Rattle.std.specs.Int.RustNames.{unsigned_abs, int_rem}
use Rattle.std.specs.List.{flat_map, slice_get}
use Rattle.tree_key.specs.Keys.{Key, root, child, width, first_cell, InBox}
use Rattle.tree_model.specs.Functions.{Function, value_at, fits, max_value, max_depth}
use Rattle.tree_model.specs.Shapes.{is_leaf}
use Rattle.tree_model.specs.Trees.{Tree, IsTree, HasValues, box_sum, difference}
use Rattle.tree_model.specs.Nodes.{Form, node, NumbersFit, max_number}
use Rattle.tree_model.specs.Products.{inner_product, is_common, inner_part}
use Rattle.tree_model.specs.Project.{Projection, projected}
use Rattle.tree_model.specs.Rows.{row, halves, whole_keys, with_sum, leaf_sums, leaf_sums_above}

-- at each cell a function that fits has a value that a cell may have
abbrev pub ValuesStayWithin : Type 0
ValuesStayWithin = (depth : ℕ) (f : Function) (cell : ℕ) → fits depth f ≡ true → cell < 2 ^ depth → unsigned_abs (value_at f cell) ≤ max_value

-- what `project` makes is a tree
abbrev pub ProjectionsAreTrees : Type 0
ProjectionsAreTrees = (depth : ℕ) (p : Projection) → IsTree (projected depth p)

-- the sum over a leaf's box is its width times the value at its first cell
abbrev pub LeavesAreConstant : Type 0
LeavesAreConstant = (depth : ℕ) (p : Projection) (k : Key) → is_leaf (projected depth p).shape k ≡ true → box_sum (projected depth p) k ≡ pos (width depth k) *ℤ value_at p.function (first_cell depth k)

-- level by level: the first row is the root, each row is the children of the split keys of the row above it, and there is
-- no row below the depth
pub record RowsFollow : Type 0 where
  pub first : (depth : ℕ) (p : Projection) → row depth p 0 ≡ root ∷ []
  pub next : (depth : ℕ) (p : Projection) (level : ℕ) → flat_map (halves depth p) (row depth p level) ≡ row depth p (level + 1)

-- level by level: the leaves are the keys of the rows that aren't split
pub record LeavesFollow : Type 0 where
  pub first : (depth : ℕ) (p : Projection) → leaf_sums_above (projected depth p) 0 ≡ []
  pub next : (depth : ℕ) (p : Projection) (level : ℕ) → leaf_sums_above (projected depth p) (level + 1) ≡ leaf_sums_above (projected depth p) level ++ map (with_sum (projected depth p)) (whole_keys depth p (row depth p level))
  pub all : (depth : ℕ) (p : Projection) → leaf_sums_above (projected depth p) (depth + 1) ≡ leaf_sums (projected depth p)

-- the sum over a box is the sum over its left half and the sum over its right half
abbrev pub SumsSplit : Type 0
SumsSplit = (t : Tree) (k : Key) → k.level < t.depth → box_sum t k ≡ box_sum t (child k false) +ℤ box_sum t (child k true)

-- the sum over a leaf's box is its width times the value at its first cell, or at any other
abbrev pub LeavesHaveOneValue : Type 0
LeavesHaveOneValue = (t : Tree) (leaf : Key) (cell : ℕ) (value : ℤ) → IsTree t → is_leaf t.shape leaf ≡ true → InBox t.depth leaf cell → slice_get t.cells cell ≡ Some value → box_sum t leaf ≡ pos (width t.depth leaf) *ℤ value

-- what the differences add to the inner product, key by key
pub record InnerPartsFollow (f g : Tree) : Type 0 where
  pub common : (k : Key) → k.level < f.depth → is_common f g k ≡ true → inner_part f g k ≡ difference f k *ℤ difference g k +ℤ pos 2 *ℤ (inner_part f g (child k false) +ℤ inner_part f g (child k true))
  pub other : (k : Key) → is_common f g k ≡ false → inner_part f g k ≡ pos 0

abbrev pub InnerPartsFollowKeys : Type 0
InnerPartsFollowKeys = (f g : Tree) → InnerPartsFollow f g

-- the numbers of a tree that has values are within the limit of nodes
abbrev pub NodesFit : Type 0
NodesFit = (form : Form) (t : Tree) (k : Key) → HasValues t → t.depth ≤ max_depth → NumbersFit (node form t k)

-- so are its sums and differences, and above the depth both are even or both odd
pub record SumsFit (t : Tree) : Type 0 where
  pub sums : (k : Key) → unsigned_abs (box_sum t k) ≤ 2 ^ 40
  pub differences : (k : Key) → unsigned_abs (difference t k) ≤ max_number
  pub even : (k : Key) → k.level < t.depth → int_rem (box_sum t k +ℤ difference t k) (pos 2) ≡ pos 0

abbrev pub TreeSumsFit : Type 0
TreeSumsFit = (t : Tree) → HasValues t → t.depth ≤ max_depth → SumsFit t

-- what the differences of two trees that have values add is small, and with the product of the sums it is a multiple of the
-- number of the cells
pub record PartsFit (f g : Tree) : Type 0 where
  pub part : (k : Key) → unsigned_abs (inner_part f g k) ≤ 2 ^ 90
  pub exact : int_rem (box_sum f root *ℤ box_sum g root +ℤ inner_part f g root) (pos (2 ^ f.depth)) ≡ pos 0

abbrev pub InnerPartsFit : Type 0
InnerPartsFit = (f g : Tree) → IsTree f → IsTree g → f.depth ≡ g.depth → f.depth ≤ max_depth → HasValues f → HasValues g → PartsFit f g

-- the product of two sums, and what the differences add to it, is the sum of the products times the number of the cells
abbrev pub ProductLaw : Type 0
ProductLaw = (f g : Tree) → IsTree f → IsTree g → f.depth ≡ g.depth → box_sum f root *ℤ box_sum g root +ℤ inner_part f g root ≡ pos (2 ^ f.depth) *ℤ inner_product f g
