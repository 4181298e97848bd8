-- Two trees that are added, box by box.
use Rattle.std.specs.Prelude.{◌≡◌, ℕ, true, ℤ, Option, Some, None, if◌then◌else◌}
use Rattle.std.specs.BTreeMap.{BTreeMap}
use Rattle.tree_key.specs.Keys.{Key}
use Rattle.tree_model.specs.Operations.{union}
use Rattle.tree_model.specs.Shapes.{is_interior}
use Rattle.tree_model.specs.Trees.{Tree, box_sum, difference}
use Rattle.tree_operations.specs.Numbers.{KeepsDifferences}

-- both maps keep the differences of their trees, which have this depth
pub record AreKept (f g : Tree) (left right : BTreeMap Key ℤ) (depth : ℕ) : Type 0 where
  pub first : KeepsDifferences f left
  pub second : KeepsDifferences g right
  pub first_depth : f.depth ≡ depth
  pub second_depth : g.depth ≡ depth

-- besides, one of the trees has the key, and these are the sums over its box
pub record AreKeptAt (f g : Tree) (left right : BTreeMap Key ℤ) (depth : ℕ) (k : Key) (left_sum right_sum : ℤ) : Type 0 where
  pub kept : AreKept f g left right depth
  pub key : union f.shape g.shape k ≡ true
  pub first_sum : left_sum ≡ box_sum f k
  pub second_sum : right_sum ≡ box_sum g k

-- the differences of two trees at a key that has children in one of them
abbrev pub two_differences : Tree → Tree → Key → Option (ℤ × ℤ)
two_differences f g k = if is_interior (union f.shape g.shape) k then Some (difference f k, difference g k) else None
