-- Numbers at keys, as maps that keep what there is of a tree.
use Rattle.std.specs.Prelude.{◌≡◌, ◌≤◌, Bool, ◌&&◌, ◌==◌, Option, ℤ}
use Rattle.std.specs.BTreeMap.{BTreeMap, get}
use Rattle.tree_key.specs.Keys.{Key, key_cmp}
use Rattle.tree_model.specs.Functions.{max_depth}
use Rattle.tree_model.specs.StoredTrees.{leaf_sum_at, difference_at}
use Rattle.tree_model.specs.Trees.{Tree, IsTree, HasValues}

-- the number that a map has at a key
abbrev pub number_at : BTreeMap Key ℤ → Key → Option ℤ
number_at numbers k = get key_cmp numbers k

-- whether two keys are one
abbrev pub same_key : Key → Key → Bool
same_key a b = (a.level == b.level) && (a.at == b.at)

-- a tree of a depth that there is, with values that cells may have
pub record IsSound (t : Tree) : Type 0 where
  pub tree : IsTree t
  pub values : HasValues t
  pub depth : t.depth ≤ max_depth

-- the map has the sums of the tree's leaves at their keys, and nothing else
pub record KeepsLeaves (t : Tree) (leaves : BTreeMap Key ℤ) : Type 0 where
  pub sound : IsSound t
  pub at : (k : Key) → number_at leaves k ≡ leaf_sum_at t k

-- the map has the differences of the tree's keys that have children at these keys, and nothing else
pub record KeepsDifferences (t : Tree) (differences : BTreeMap Key ℤ) : Type 0 where
  pub sound : IsSound t
  pub at : (k : Key) → number_at differences k ≡ difference_at t k
