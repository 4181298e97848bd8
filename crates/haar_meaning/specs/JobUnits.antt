-- The units that a job has, with what they know.
use Rattle.std.specs.Prelude.{◌≡◌, ℕ, ◌<◌, true, false, IfSome, Some}
use Rattle.tree_key.specs.Keys.{Key, child}
use Rattle.tree_model.specs.Shapes.{is_key_of}
use Rattle.haar_units.specs.Jobs.{is_on_trees}
use Rattle.haar_units.specs.ModelJobs.{keys_at}
use Rattle.haar_base.specs.declared.operation.Operation.{Operation}
use Rattle.haar_base.specs.declared.operation.Operation.TheVariants.{Coarsen, Size}
use Rattle.haar_base.specs.declared.unit.Down.{Down as DownUnit}
use Rattle.haar_base.specs.declared.unit.Up.{Up as UpUnit}
use Rattle.haar_base.specs.declared.unit.Unit.{Unit}
use Rattle.haar_base.specs.declared.unit.Unit.TheVariants.{Down, Up, Clear, Count, Total}
use Rattle.haar_base.specs.Operations.{operation_at, word_of, first_source, second_source}
use Rattle.haar_meaning.specs.PlannedJobs.{PlannedJob, standing, IfBefore}
use Rattle.haar_meaning.specs.Sides.{IsRightSide, IsHeld}

-- before the first command that overflows, a command visits a key, and erases it
abbrev pub IsVisited : PlannedJob → ℕ → Key → Type 0
IsVisited job command k = IfBefore (standing job command) (IfSome (keys_at job.depth job.commands command) (λ keys. keys.visited k ≡ true))

abbrev pub IsErased : PlannedJob → ℕ → Key → Type 0
IsErased job command k = IfBefore (standing job command) (IfSome (keys_at job.depth job.commands command) (λ keys. keys.erased k ≡ true))

-- the command has units for keys
pub record IsOnTrees (job : PlannedJob) (command : ℕ) (operation : Operation) : Type 0 where
  pub at : operation_at job.operations command ≡ Some operation
  pub on_trees : is_on_trees (word_of operation) ≡ true

pub record IsDownUnit (job : PlannedJob) (operation : Operation) (u : DownUnit) : Type 0 where
  pub command : IsOnTrees job u.command operation
  pub key : is_key_of job.depth u.key ≡ true
  pub visited : IsVisited job u.command u.key
  pub first : IsRightSide job operation (first_source operation) u.key u.first
  pub second : IsRightSide job operation (second_source operation) u.key u.second

-- the key has children that were visited
pub record IsUpUnit (job : PlannedJob) (operation : Operation) (u : UpUnit) : Type 0 where
  pub command : IsOnTrees job u.command operation
  pub key : is_key_of job.depth u.key ≡ true
  pub above : u.key.level < job.depth
  pub visited : IsVisited job u.command (child u.key false)
  pub held : IfBefore (standing job u.command) (IsHeld job operation u.key u.held)

pub record IsClearUnit (job : PlannedJob) (command : ℕ) (source : ℕ) (k : Key) : Type 0 where
  pub at : operation_at job.operations command ≡ Some (Coarsen source)
  pub key : is_key_of job.depth k ≡ true
  pub below : 0 < k.level
  pub erased : IsErased job command k

pub record IsCountUnit (job : PlannedJob) (command : ℕ) (source : ℕ) (rank : ℕ) : Type 0 where
  pub at : operation_at job.operations command ≡ Some (Size source)
  pub within : rank < job.ranks

pub record IsTotalUnit (job : PlannedJob) (command : ℕ) (source : ℕ) (ranks : ℕ) : Type 0 where
  pub at : operation_at job.operations command ≡ Some (Size source)
  pub all : ranks ≡ job.ranks

-- a unit of the job
abbrev pub IsUnit : PlannedJob → Unit → Type 0
IsUnit job (Down u) = (operation : Operation) × IsDownUnit job operation u
IsUnit job (Up u) = (operation : Operation) × IsUpUnit job operation u
IsUnit job (Clear command k) = (source : ℕ) × IsClearUnit job command source k
IsUnit job (Count command rank) = (source : ℕ) × IsCountUnit job command source rank
IsUnit job (Total command ranks) = (source : ℕ) × IsTotalUnit job command source ranks
