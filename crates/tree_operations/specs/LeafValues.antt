-- Leaves whose sums are within the limit of values.
use Rattle.std.specs.Prelude.{◌≡◌, ◌*◌, ◌≤◌, true}
use Rattle.std.specs.Int.RustNames.{unsigned_abs}
use Rattle.tree_key.specs.Keys.{Key, width}
use Rattle.tree_model.specs.Functions.{max_value}
use Rattle.tree_model.specs.Shapes.{is_leaf}
use Rattle.tree_model.specs.Trees.{Tree, box_sum}
use Rattle.tree_operations.specs.Filling.{under}

-- no leaf at the top key or below it has a sum above what its cells may have
pub record LeavesHaveValues (t : Tree) (top : Key) : Type 0 where
  pub at : (k : Key) → under top k ≡ true → is_leaf t.shape k ≡ true → unsigned_abs (box_sum t k) ≤ width t.depth k * max_value
