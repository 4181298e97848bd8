-- What the application of a job keeps of it, as a fact with one proof at most.
use Rattle.std.proofs.Common.{◌≡◌, ℕ, true, List, length, Option, Some, None, refl}
use Rattle.std.specs.Prelude.{IsSomeAnd}
use Rattle.std.proofs.Props.{props}
use Rattle.app_core.specs.Commands.{IsRankCount}
use Rattle.tree_model.specs.Commands.{Command}
use Rattle.job_data.specs.Checks.{IsJob}
use Rattle.haar_units.specs.ModelJobs.{command_at}
use Rattle.haar_base.specs.declared.operation.Operation.{Operation}
use Rattle.haar_base.specs.declared.operation.Operation.TheVariants.{Project, Refine, Coarsen, Compress, Reconstruct, Add, Mul, Inner, Print, Size, Fence}
use Rattle.haar_base.specs.Operations.{operation_at, are_within}
use Rattle.haar_meaning.specs.PlannedJobs.{PlannedJob, IsPlannedJob, HasPlan, IsPlan, commands_before, job_of}

-- the operation is what the command of a number does
abbrev pub IsPlanAt : List Command → ℕ → Operation → Type 0
IsPlanAt commands number operation = IsSomeAnd (command_at commands number) (λ command. IsPlan (commands_before commands number) command operation)

-- each operation is what the command of its number does
abbrev pub ArePlans : List Command → List Operation → Type 0
ArePlans commands operations = (number : ℕ) (operation : Operation) → operation_at operations number ≡ Some operation → IsPlanAt commands number operation

-- the job and its operations, number of ranks and limits
pub record IsKept (job : PlannedJob) : Type 0 where
  pub checked : IsJob (job_of job)
  pub ranks : IsRankCount job.ranks
  pub number : length job.operations ≡ length job.commands
  pub plans : ArePlans job.commands job.operations
  pub within : are_within job.depth job.operations ≡ true

-- what a command does is a fact
pub plan_prop : (before : List Command) (command : Command) (operation : Operation) → IsProp (IsPlan before command operation)
plan_prop before (Command.Project name projection) (Project function level tolerance) = hlevel props
plan_prop before (Command.Refine name down_to) (Refine level source) = hlevel props
plan_prop before (Command.Coarsen name) (Coarsen source) = hlevel props
plan_prop before (Command.Compress name) (Compress source) = hlevel props
plan_prop before (Command.Reconstruct name) (Reconstruct source) = hlevel props
plan_prop before (Command.Add name a f b g) (Add left_factor left right_factor right) = hlevel props
plan_prop before (Command.Mul name f g) (Mul left right) = hlevel props
plan_prop before (Command.Inner f g) (Inner left right) = hlevel props
plan_prop before (Command.Print name) (Print source form printed) = hlevel props
plan_prop before (Command.Size name) (Size source) = hlevel props
plan_prop before Command.Fence Fence = hlevel props
plan_prop before _ _ = hlevel props

pub kept_prop : (job : PlannedJob) → IsProp (IsKept job)
kept_prop job = hlevel (props, plan_prop)

-- what is kept of a job says what each command does
pub planned_job : (job : PlannedJob) → IsKept job → IsPlannedJob job
planned_job job kept = record {
  checked = kept.checked;
  ranks = kept.ranks;
  number = kept.number;
  plans = λ number operation at. has number operation (command_at job.commands number) refl (kept.plans number operation at);
  within = kept.within;
}
  where
    has : (number : ℕ) (operation : Operation) (o : Option Command) → command_at job.commands number ≡ o → IsSomeAnd o (λ c. IsPlan (commands_before job.commands number) c operation) → HasPlan job.commands number operation
    has number operation None e there = absurd there
    has number operation (Some c) e there = record { command = c; at = e; plan = there }
