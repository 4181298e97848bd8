-- Keys distributed by an owner map, and the numbers that are counted of a shape.
use Rattle.std.specs.Prelude.{◌≡◌, ◌≤◌, ℕ, Bool, ℤ}
use Rattle.std.specs.BTreeMap.{BTreeMap, get}
use Rattle.owner_map.specs.Owners.{owner}
use Rattle.owner_map.specs.declared.map.OwnerMap.{OwnerMap}
use Rattle.tree_key.specs.Keys.{Key, key_cmp}
use Rattle.tree_model.specs.Functions.{max_depth}
use Rattle.tree_model.specs.Shapes.{key_count, is_interior}
use Rattle.tree_model.specs.StoredTrees.{leaf_sum_at, difference_at}
use Rattle.tree_model.specs.TotalLaws.{cut_count}
use Rattle.tree_model.specs.Totals.{Distribution, Total}
use Rattle.tree_model.specs.Trees.{Tree, IsTree}
use Rattle.tree_totals.specs.declared.distribution.Distribution.{Distribution as DistributionData}
use Rattle.tree_totals.specs.declared.shape_count.ShapeCount.{ShapeCount}
use Rattle.tree_totals.specs.declared.total.Total.{Total as TotalData}

-- the keys of an owner map over so many ranks, as the model has them
abbrev pub by_map : OwnerMap → ℕ → Distribution
by_map map ranks = record { ranks = ranks; owner = λ k. owner map k ranks }

-- the distribution, and the total, of the model
abbrev pub distribution_of : DistributionData → Distribution
distribution_of d = by_map d.map d.ranks

abbrev pub total_of : TotalData → Total
total_of t = record { messages = t.messages; tasks = t.tasks }

-- a map has the sums of a tree's leaves, or the differences of its keys that have children
pub record HasLeafSums (t : Tree) (m : BTreeMap Key ℤ) : Type 0 where
  pub tree : IsTree t
  pub deep : t.depth ≤ max_depth
  pub at : (k : Key) → get key_cmp m k ≡ leaf_sum_at t k

pub record HasDifferences (t : Tree) (m : BTreeMap Key ℤ) : Type 0 where
  pub tree : IsTree t
  pub deep : t.depth ≤ max_depth
  pub at : (k : Key) → get key_cmp m k ≡ difference_at t k

-- the keys of a shape that have children, and those that have another owner than their parent, counted
pub record Counts (owner : Key → ℕ) (depth : ℕ) (shape : Key → Bool) (c : ShapeCount) : Type 0 where
  pub interior : c.interior ≡ key_count depth (is_interior shape)
  pub cuts : c.cuts ≡ cut_count owner depth shape
