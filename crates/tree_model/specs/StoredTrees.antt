-- What is kept of a tree at each key, in its two forms, and what an evaluator of commands rests on.
use Rattle.std.specs.Prelude.{◌≡◌, ℕ, ◌*◌, ◌<◌, ◌≤◌, true, false, List, map, Option, Some, None, if◌then◌else◌, ℤ, pos, ◌*ℤ◌, int_div, int_rem}
use Rattle.std.specs.Int.RustNames.{unsigned_abs}
use Rattle.std.specs.BTreeMap.{BTreeMap, get, IsOrdered}
use Rattle.tree_key.specs.Keys.{Key, child, width, key_cmp}
use Rattle.tree_model.specs.Functions.{fits, max_value}
use Rattle.tree_model.specs.Operations.{refined, union, product, overflows}
use Rattle.tree_model.specs.OperationTexts.{interior_keys}
use Rattle.tree_model.specs.Project.{Projection, projected}
use Rattle.tree_model.specs.Rows.{leaf_sums}
use Rattle.tree_model.specs.Shapes.{is_key_of, is_leaf, is_interior}
use Rattle.tree_model.specs.Trees.{Tree, IsTree, HasValues, is_constant, box_sum, difference}

-- the sum over the box of a leaf, and nothing at other keys
abbrev pub leaf_sum_at : Tree → Key → Option ℤ
leaf_sum_at t k = if is_leaf t.shape k then Some (box_sum t k) else None

-- the difference between the halves of a key that has children, and nothing at other keys
abbrev pub difference_at : Tree → Key → Option ℤ
difference_at t k = if is_interior t.shape k then Some (difference t k) else None

-- the sum over a box that the tree doesn't cut, a leaf's or one below it, and nothing over other boxes
abbrev pub whole_sum : Tree → Key → Option ℤ
whole_sum t k = if t.shape (child k false) then None else Some (box_sum t k)

-- the sum over a box on which all values are the same, and nothing over other boxes
abbrev pub constant_sum : Tree → Key → Option ℤ
constant_sum t k = if is_constant t k then Some (box_sum t k) else None

-- the keys that have children with their differences, in key order
abbrev pub interior_differences : Tree → List (Key × ℤ)
interior_differences t = map (λ k. (k, difference t k)) (interior_keys t)

-- a key of the tree's depth whose box the tree doesn't cut
pub record IsWhole (t : Tree) (k : Key) : Type 0 where
  pub key : is_key_of t.depth k ≡ true
  pub uncut : t.shape (child k false) ≡ false

-- the halves of a box that the tree doesn't cut have one sum
abbrev pub WholeBoxesAreEven : Type 0
WholeBoxesAreEven = (t : Tree) (k : Key) → IsTree t → IsWhole t k → k.level < t.depth → difference t k ≡ pos 0

-- the sum over a box that the tree doesn't cut is a multiple of its width, and within the limit of values
pub record IsWholeSum (sum : ℤ) (width : ℕ) : Type 0 where
  pub exact : int_rem sum (pos width) ≡ pos 0
  pub within : unsigned_abs sum ≤ width * max_value

abbrev pub WholeBoxesHaveOneValue : Type 0
WholeBoxesHaveOneValue = (t : Tree) (k : Key) → IsTree t → HasValues t → IsWhole t k → IsWholeSum (box_sum t k) (width t.depth k)

-- the value on a box that the tree doesn't cut, from its sum
abbrev pub value_of : ℤ → ℕ → ℤ
value_of sum width = int_div sum (pos width)

-- the sum over a leaf of a product, from the values on its box
abbrev pub ProductsOfValues : Type 0
ProductsOfValues =
    (f g : Tree) (k : Key) →
    IsTree f →
    IsTree g →
    f.depth ≡ g.depth →
    is_leaf (union f.shape g.shape) k ≡ true →
    box_sum (product f g) k ≡ pos (width f.depth k) *ℤ (value_of (box_sum f k) (width f.depth k) *ℤ value_of (box_sum g k) (width f.depth k))

-- a product overflows where the product of the values on a leaf is above the limit, in absolute value
abbrev pub ProductsOverflow : Type 0
ProductsOverflow =
    (f g : Tree) (k : Key) →
    IsTree f →
    IsTree g →
    f.depth ≡ g.depth →
    is_leaf (union f.shape g.shape) k ≡ true →
    max_value < unsigned_abs (value_of (box_sum f k) (width f.depth k) *ℤ value_of (box_sum g k) (width f.depth k)) →
    overflows (product f g) ≡ true

-- a tree has values that a cell may have where no leaf's sum is above its limit, and then it doesn't overflow
abbrev pub LeavesWithin : Type 0
LeavesWithin =
    (t : Tree) →
    IsTree t →
    ((k : Key) → is_leaf t.shape k ≡ true → unsigned_abs (box_sum t k) ≤ width t.depth k * max_value) →
    HasValues t × (overflows t ≡ false)

-- a tree that has values doesn't overflow
abbrev pub ValuesDontOverflow : Type 0
ValuesDontOverflow = (t : Tree) → HasValues t → overflows t ≡ false

-- what `project` makes of a function that fits has values that a cell may have, and so has a refined tree
abbrev pub ProjectionsHaveValues : Type 0
ProjectionsHaveValues = (depth : ℕ) (p : Projection) → fits depth p.function ≡ true → HasValues (projected depth p)

abbrev pub RefinedHaveValues : Type 0
RefinedHaveValues = (level : ℕ) (t : Tree) → HasValues t → HasValues (refined level t)

-- a map that has just the sums of a tree's leaves at its keys has them in key order; and so with differences
abbrev pub LeavesInOrder : Type 0
LeavesInOrder = (t : Tree) (m : BTreeMap Key ℤ) → IsTree t → IsOrdered key_cmp m → ((k : Key) → get key_cmp m k ≡ leaf_sum_at t k) → m.entries ≡ leaf_sums t

abbrev pub DifferencesInOrder : Type 0
DifferencesInOrder =
    (t : Tree) (m : BTreeMap Key ℤ) →
    IsTree t →
    IsOrdered key_cmp m →
    ((k : Key) → get key_cmp m k ≡ difference_at t k) →
    m.entries ≡ interior_differences t

-- the other way round: the map of these entries has the sums at the keys
abbrev pub LeavesAtKeys : Type 0
LeavesAtKeys = (t : Tree) (m : BTreeMap Key ℤ) (k : Key) → IsTree t → m.entries ≡ leaf_sums t → get key_cmp m k ≡ leaf_sum_at t k
