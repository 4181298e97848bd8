-- Right values of results, and what they make.
use Rattle.std.specs.Prelude.{◌≡◌, ℕ, false, List, [], length, slice_get, Option, Some, None}
use Rattle.std.specs.Option.{option_map_or}
use Rattle.tree_model.specs.Commands.{Command}
use Rattle.tree_model.specs.Jobs.{JobData, command_lines, job_text, first_overflow, lines_from, lines_before}
use Rattle.tree_model.specs.Versions.{no_versions}
use Rattle.job_data.specs.Checks.{is_fence}
use Rattle.haar_units.specs.ModelJobs.{command_at, versions_before}
use Rattle.haar_units.specs.Units.{key_future}
use Rattle.haar_base.specs.declared.value.Value.{Value}
use Rattle.haar_base.specs.declared.value.Value.TheVariants.{Bad}
use Rattle.haar_meaning.specs.PlannedJobs.{PlannedJob, IsPlannedJob, job_of, Standing, standing}
use Rattle.haar_meaning.specs.PlannedJobs.Standing.{Before, At, After}
use Rattle.haar_meaning.specs.RightValues.{IsRightValue}
use Rattle.haar_results.specs.Results.{Work, Made, value_lines, work_of, made_of, whole_text}

-- a right value of the result of the command of a number, which is the value of the root's future
abbrev pub IsRightResult : PlannedJob → ℕ → Value → Type 0
IsRightResult job number v = IsRightValue job (key_future number 1) v

-- the command of a number, which isn't a fence
pub record IsWork (job : PlannedJob) (number : ℕ) (c : Command) : Type 0 where
  pub at : command_at job.commands number ≡ Some c
  pub works : is_fence c ≡ false

-- the lines of the command of a number
abbrev pub lines_of : JobData → ℕ → List ℕ
lines_of job number = option_map_or (command_lines (versions_before job.depth job.commands number)) (command_at job.commands number) []

-- before the first command that overflows, a right value of a result gives the lines of its command
abbrev pub RightValuesHaveLines : Type 0
RightValuesHaveLines =
    (job : PlannedJob) (number : ℕ) (c : Command) (v : Value) → IsPlannedJob job → IsWork job number c → standing job number ≡ Before → IsRightResult job number v
    → value_lines c v ≡ Some (command_lines (versions_before job.depth job.commands number) c)

-- and at it the right value is bad
abbrev pub RightOverflowsAreBad : Type 0
RightOverflowsAreBad =
    (job : PlannedJob) (number : ℕ) (c : Command) (v : Value) → IsPlannedJob job → IsWork job number c → standing job number ≡ At → IsRightResult job number v → v ≡ Bad

-- one right value for each command but fences, in order
pub record AreRightResults (job : PlannedJob) (values : List Value) : Type 0 where
  pub number : length values ≡ length (work_of job.commands)
  pub each : (index : ℕ) (work : Work) (v : Value) → slice_get (work_of job.commands) index ≡ Some work → slice_get values index ≡ Some v → IsRightResult job work.number v

-- the lines of all commands, or of those before the one of a number
abbrev pub lines_to : JobData → Option ℕ → List ℕ
lines_to job None = lines_from job.depth no_versions job.commands
lines_to job (Some number) = lines_before job number

-- the text that a job has, and the first command that overflows
pub record IsJobText (job : JobData) (made : Made) : Type 0 where
  pub overflow : made.overflow ≡ first_overflow job
  pub text : whole_text made ≡ job_text job
  pub lines : made.text ≡ lines_to job (first_overflow job)

-- right results make the text of the job, up to the first command that overflows
abbrev pub RightResultsMakeTheText : Type 0
RightResultsMakeTheText = (job : PlannedJob) (values : List Value) → IsPlannedJob job → AreRightResults job values → IsJobText (job_of job) (made_of (work_of job.commands) values)
