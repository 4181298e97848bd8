-- Sums over boxes that a tree doesn't cut, as they are passed down from key to key.
use Rattle.std.specs.Prelude.{◌≡◌, ℕ, ◌≤◌, true, Option, Some, None, ℤ, pos, int_div, if◌then◌else◌}
use Rattle.std.specs.BTreeMap.{BTreeMap}
use Rattle.tree_key.specs.Keys.{Key}
use Rattle.tree_model.specs.Operations.{refined}
use Rattle.tree_model.specs.Trees.{Tree, box_sum}
use Rattle.tree_operations.specs.Numbers.{KeepsLeaves}

-- the sum over the box of a key below a leaf of the tree, and nothing at the keys of the tree
abbrev pub sum_from_above : Tree → Key → Option ℤ
sum_from_above t k = if t.shape k then None else Some (box_sum t k)

-- half of a sum, where there is one
abbrev pub half_sum : Option ℤ → Option ℤ
half_sum None = None
half_sum (Some sum) = Some (int_div sum (pos 2))

-- a key of the tree that the map keeps, or one down to a level, with the sum from above
pub record IsKeyToRefine (t : Tree) (leaves : BTreeMap Key ℤ) (level : ℕ) (key : Key) (above : Option ℤ) : Type 0 where
  pub keeps : KeepsLeaves t leaves
  pub shallow : level ≤ t.depth
  pub inside : (refined level t).shape key ≡ true
  pub passed : above ≡ sum_from_above t key
