-- Jobs with what each command does: the versions that it reads have numbers, not names.
use Rattle.std.specs.Prelude.{◌≡◌, ℕ, zero, suc, true, ◌==◌, nat_lt, if◌then◌else◌, List, [], length, take, Option, Some, None, ⊤}
use Rattle.app_core.specs.Commands.{IsRankCount}
use Rattle.owner_map.specs.declared.OwnerMap.{OwnerMap}
use Rattle.tree_model.specs.Commands.{Command}
use Rattle.tree_model.specs.Jobs.{JobData, first_overflow}
use Rattle.tree_model.specs.Versions.{Version}
use Rattle.haar_node.specs.Func.{function_of}
use Rattle.job_data.specs.Checks.{IsJob, form_behind}
use Rattle.job_data.specs.Data.{form_of}
use Rattle.job_data.specs.Versions.{version_behind}
use Rattle.job_words.specs.NameBytes.{bytes_of}
use Rattle.haar_units.specs.ModelJobs.{command_at, version_at}
use Rattle.haar_base.specs.declared.operation.Operation.{Operation}
use Rattle.haar_base.specs.declared.operation.Operation.TheVariants.{Project, Refine, Coarsen, Compress, Reconstruct, Add, Mul, Inner, Print, Size, Fence}
use Rattle.haar_base.specs.Operations.{operation_at, are_within}

-- the depth and the commands of a job, what each command does, who owns the keys, and the number of ranks
pub record PlannedJob : Type 0 where
  pub depth : ℕ
  pub commands : List Command
  pub operations : List Operation
  pub owners : OwnerMap
  pub ranks : ℕ

abbrev pub job_of : PlannedJob → JobData
job_of job = record { depth = job.depth; commands = job.commands }

-- the version that the command of a number writes, where it writes one
abbrev pub version_of : PlannedJob → ℕ → Option Version
version_of job number = version_at job.depth job.commands number

-- the commands before the one of a number
abbrev pub commands_before : List Command → ℕ → List Command
commands_before commands zero = []
commands_before commands (suc before) = take before commands

-- what a command after these does, when each name that it reads is replaced by the number of the version that it stands for
abbrev pub IsPlan : List Command → Command → Operation → Type 0
IsPlan before (Command.Project name projection) (Project function level tolerance) = projection ≡ record { function = function_of function; level = level; tolerance = tolerance }
IsPlan before (Command.Refine name down_to) (Refine level source) = (down_to ≡ level) × (version_behind before name ≡ source)
IsPlan before (Command.Coarsen name) (Coarsen source) = version_behind before name ≡ source
IsPlan before (Command.Compress name) (Compress source) = version_behind before name ≡ source
IsPlan before (Command.Reconstruct name) (Reconstruct source) = version_behind before name ≡ source
IsPlan before (Command.Add name a f b g) (Add left_factor left right_factor right) =
    (a ≡ left_factor) × (version_behind before f ≡ left) × (b ≡ right_factor) × (version_behind before g ≡ right)
IsPlan before (Command.Mul name f g) (Mul left right) = (version_behind before f ≡ left) × (version_behind before g ≡ right)
IsPlan before (Command.Inner f g) (Inner left right) = (version_behind before f ≡ left) × (version_behind before g ≡ right)
IsPlan before (Command.Print name) (Print source form printed) = (version_behind before name ≡ source) × (form_behind before name ≡ Some (form_of form)) × (name ≡ bytes_of printed)
IsPlan before (Command.Size name) (Size source) = version_behind before name ≡ source
IsPlan before Command.Fence Fence = ⊤
IsPlan before _ _ = ⊥

-- the command of a number, which does this
pub record HasPlan (commands : List Command) (number : ℕ) (operation : Operation) : Type 0 where
  pub command : Command
  pub at : command_at commands number ≡ Some command
  pub plan : IsPlan (commands_before commands number) command operation

-- the commands pass all checks, and each of them does what its words say, with numbers within their limits
pub record IsPlannedJob (job : PlannedJob) : Type 0 where
  pub checked : IsJob (job_of job)
  pub ranks : IsRankCount job.ranks
  pub number : length job.operations ≡ length job.commands
  pub plans : (number : ℕ) (operation : Operation) → operation_at job.operations number ≡ Some operation → HasPlan job.commands number operation
  pub within : are_within job.depth job.operations ≡ true

-- where a command stands to the first one that overflows
pub data Standing : Type 0 where
  Before : Standing
  At : Standing
  After : Standing

-- each command is before it where none overflows
abbrev pub standing_to : ℕ → Option ℕ → Standing
standing_to number None = Before
standing_to number (Some first) = if nat_lt number first then Before else if number == first then At else After

abbrev pub standing : PlannedJob → ℕ → Standing
standing job number = standing_to number (first_overflow (job_of job))

-- before the first command that overflows this is known; at it and after it nothing is
abbrev pub IfBefore : Standing → Type 0 → Type 0
IfBefore Before A = A
IfBefore At A = ⊤
IfBefore After A = ⊤
