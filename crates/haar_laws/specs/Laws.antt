-- The laws of an application on right inputs.
use Rattle.std.specs.Prelude.{ℕ}
use Rattle.std.specs.List.{AllByRecursion}
use Rattle.app_core.specs.Given.{Given}
use Rattle.app_core.specs.Inputs.{AreRightInputs}
use Rattle.app_core.specs.Effects.{IsRightEffect}
use Rattle.haar_node.specs.declared.Node.{Node}
use Rattle.haar_units.specs.Units.{key_future}
use Rattle.haar_base.specs.declared.unit.Unit.{Unit}
use Rattle.haar_base.specs.declared.unit.Unit.TheVariants.{Total}
use Rattle.haar_base.specs.declared.value.Value.{Value}
use Rattle.haar_base.specs.Units.{needs_of, home_of, reads_of, counts_of}
use Rattle.haar_meaning.specs.PlannedJobs.{PlannedJob, IsPlannedJob}
use Rattle.haar_meaning.specs.RightValues.{IsRightValue}
use Rattle.haar_meaning.specs.RightCells.{IsRightCell, IsRightSize}
use Rattle.haar_meaning.specs.JobUnits.{IsUnit}
use Rattle.haar_visits.specs.Sizing.{total}
use Rattle.haar_steps.specs.Forms.{IsOfForm}
use Rattle.haar_steps.specs.Starts.{starting_of}
use Rattle.haar_steps.specs.Steps.{step_of}

-- each unit of a job has the form of one
abbrev pub UnitsAreOfForm : Type 0
UnitsAreOfForm = (job : PlannedJob) (u : Unit) → IsUnit job u → IsOfForm job.depth job.operations job.ranks u

-- these inputs are right for a unit
abbrev pub AreRightFor : PlannedJob → Unit → Given Value Node → Type 0
AreRightFor job u given =
    AreRightInputs (IsRightValue job) (IsRightCell job) (IsRightSize job) (needs_of u) (reads_of job.operations u) (counts_of job.operations u) (home_of job.owners u job.ranks) given

-- from the right counts of all ranks, the unit that adds them gives a right size
abbrev pub TotalsAreRight : Type 0
TotalsAreRight =
    (job : PlannedJob) (command ranks : ℕ) (given : Given Value Node) → IsPlannedJob job → IsUnit job (Total command ranks) → AreRightFor job (Total command ranks) given
    → IsRightValue job (key_future command 1) (total given.values)

-- on right inputs, each effect of a unit is right: it gives a right value, puts a right cell, or spawns a unit of the job
abbrev pub StepsAreRight : Type 0
StepsAreRight =
    (job : PlannedJob) (u : Unit) (given : Given Value Node) → IsPlannedJob job → IsUnit job u → AreRightFor job u given
    → AllByRecursion (IsRightEffect (IsRightValue job) (IsRightCell job) (IsUnit job)) (step_of job.depth job.operations u given)

-- each unit that a command starts is one of the job
abbrev pub StartsAreRight : Type 0
StartsAreRight =
    (job : PlannedJob) (command : ℕ) → IsPlannedJob job
    → AllByRecursion (IsRightEffect (IsRightValue job) (IsRightCell job) (IsUnit job)) (starting_of job.operations command job.ranks)
