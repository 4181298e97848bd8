-- Two trees that are multiplied key by key.
use Rattle.std.specs.Prelude.{◌≡◌, ℕ, true, Option, ℤ}
use Rattle.std.specs.BTreeMap.{BTreeMap}
use Rattle.tree_key.specs.Keys.{Key}
use Rattle.tree_model.specs.Operations.{union}
use Rattle.tree_model.specs.Shapes.{is_leaf}
use Rattle.tree_model.specs.Trees.{Tree, box_sum}
use Rattle.tree_operations.specs.Numbers.{IsSound, KeepsLeaves}
use Rattle.tree_operations.specs.WholeSums.{sum_from_above}

-- a key of one of two trees that the maps keep, both of this depth, with the sums from above
pub record IsKeyToMultiply (f g : Tree) (left right : BTreeMap Key ℤ) (depth : ℕ) (key : Key) (left_above right_above : Option ℤ) : Type 0 where
  pub keeps_left : KeepsLeaves f left
  pub keeps_right : KeepsLeaves g right
  pub depth_left : f.depth ≡ depth
  pub depth_right : g.depth ≡ depth
  pub inside : union f.shape g.shape key ≡ true
  pub passed_left : left_above ≡ sum_from_above f key
  pub passed_right : right_above ≡ sum_from_above g key

-- a leaf of the product of two trees of this depth, with the sums over its box
pub record IsLeafToMultiply (f g : Tree) (depth : ℕ) (key : Key) (left right : ℤ) : Type 0 where
  pub sound_left : IsSound f
  pub sound_right : IsSound g
  pub depth_left : f.depth ≡ depth
  pub depth_right : g.depth ≡ depth
  pub leaf : is_leaf (union f.shape g.shape) key ≡ true
  pub sum_left : left ≡ box_sum f key
  pub sum_right : right ≡ box_sum g key
