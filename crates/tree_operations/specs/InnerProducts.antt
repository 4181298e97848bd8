-- What is kept of a tree by which its inner products are made.
use Rattle.std.specs.Prelude.{◌≡◌, ℕ, ℤ}
use Rattle.std.specs.BTreeMap.{BTreeMap}
use Rattle.tree_key.specs.Keys.{Key, root}
use Rattle.tree_model.specs.Trees.{Tree, box_sum}
use Rattle.tree_operations.specs.Numbers.{KeepsDifferences}

-- the tree has this depth and this sum over all its cells, and the map has its differences
pub record IsCompressed (t : Tree) (depth : ℕ) (sum : ℤ) (differences : BTreeMap Key ℤ) : Type 0 where
  pub keeps : KeepsDifferences t differences
  pub all : sum ≡ box_sum t root
  pub deep : t.depth ≡ depth
