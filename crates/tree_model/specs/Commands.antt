-- The commands of a job as plain data.
use Rattle.std.specs.Prelude.{ℕ, List, ℤ}
use Rattle.tree_model.specs.Project.{Projection}

-- a name is its bytes; `Add` writes the left factor times the left tree and the right factor times the right one
pub data Command : Type 0 where
  Project : (name : List ℕ) (projection : Projection) → Command
  Refine : (name : List ℕ) (level : ℕ) → Command
  Coarsen : (name : List ℕ) → Command
  Compress : (name : List ℕ) → Command
  Reconstruct : (name : List ℕ) → Command
  Add : (name : List ℕ) (left_factor : ℤ) (left : List ℕ) (right_factor : ℤ) (right : List ℕ) → Command
  Mul : (name left right : List ℕ) → Command
  Inner : (left right : List ℕ) → Command
  Print : (name : List ℕ) → Command
  Size : (name : List ℕ) → Command
  Fence : Command
