-- What is said of a job on lists of events: which command writes a version, what the ranks hold, what its fences count.
use Rattle.std.specs.Prelude.{◌≡◌, ℕ, ◌+◌, ◌^◌, List, length, Option, Some, Contains}
use Rattle.app_core.specs.Given.{Given}
use Rattle.app_core.specs.declared.Label.{Label}
use Rattle.app_core.specs.declared.CellName.{CellName}
use Rattle.app_core.specs.declared.Outline.{Outline}
use Rattle.event_lists.specs.declared.mark.Mark.{Mark}
use Rattle.event_lists.specs.declared.receipt.Receipt.{Receipt}
use Rattle.event_laws.specs.Follows.{TaskEffects, Doing, IsRun, program_from}
use Rattle.event_laws.specs.Held.{HasReceipt, IsBefore, BinsHold, AreDifferent, AllSound, ComesAfter, all_told}
use Rattle.tree_model.specs.Totals.{Distribution}
use Rattle.tree_model.specs.Totals.{total_of as serial_total}
use Rattle.haar_node.specs.declared.Node.{Node}
use Rattle.haar_units.specs.Jobs.{DistributedJob}
use Rattle.haar_units.specs.Traversals.{Traversal, MayIsPlanned}
use Rattle.haar_units.specs.Bins.{writer_of, holds}
use Rattle.haar_units.specs.Laws.{MayIsAllowed}
use Rattle.haar_units.specs.Distributions.{by_map, place_owner}
use Rattle.haar_units.specs.ModelJobs.{distributed, traversal_of, before_fence}
use Rattle.haar_base.specs.declared.unit.Unit.{Unit}
use Rattle.haar_base.specs.declared.value.Value.{Value}
use Rattle.haar_base.specs.Units.{label_of, reads_of, counts_of}
use Rattle.haar_meaning.specs.PlannedJobs.{PlannedJob, IsPlannedJob, standing}
use Rattle.haar_meaning.specs.PlannedJobs.Standing.{Before}
use Rattle.haar_meaning.specs.RightCells.{IsRightSize}
use Rattle.haar_meaning.specs.JobUnits.{IsUnit}
use Rattle.haar_steps.specs.Forms.{told}
use Rattle.haar_steps.specs.Starts.{starting_of, kinds_of}
use Rattle.haar_steps.specs.Steps.{step_of}
use Rattle.haar_laws.specs.Laws.{AreRightFor}

-- what a unit with a label may do, read and count

abbrev pub MayDo : PlannedJob → Label → List Outline → Type 0
MayDo job label os =
    (u : Unit) × (given : Given Value Node) × IsUnit job u × (label_of u ≡ label) × AreRightFor job u given × (os ≡ told job.owners job.ranks (step_of job.depth job.operations u given))

abbrev pub MayRead : PlannedJob → Label → CellName → Type 0
MayRead job label entry = (u : Unit) × IsUnit job u × (label_of u ≡ label) × Contains (reads_of job.operations u) entry

abbrev pub MayCount : PlannedJob → Label → ℕ → Type 0
MayCount job label version = (u : Unit) × IsUnit job u × (label_of u ≡ label) × (counts_of job.operations u ≡ Some version)

-- the job as plain data: who owns which key, what each command does, and which keys it visits and erases

abbrev pub distribution : PlannedJob → Distribution
distribution job = by_map job.owners job.ranks

abbrev pub model_job : PlannedJob → DistributedJob
model_job job = distributed (distribution job) job.commands

abbrev pub traversal : PlannedJob → Traversal
traversal job = traversal_of job.depth job.commands

-- neither the command of a number nor an earlier one overflows
abbrev pub IsSound : PlannedJob → ℕ → Type 0
IsSound job command = standing job command ≡ Before

-- the command that writes a version
abbrev pub writer : PlannedJob → ℕ → Option ℕ
writer job version = writer_of (model_job job) version

-- the places of the entries of a version that a rank holds: those of the keys of the version's tree that the rank owns
abbrev pub held : PlannedJob → ℕ → ℕ → List ℕ
held job rank version = holds (model_job job) (traversal job) (2 ^ (job.depth + 1)) rank version

-- the numbers of messages and of tasks up to a fence, which are those that the model's receipts have
abbrev pub total : PlannedJob → ℕ → ℕ × ℕ
total job fence = ((serial_total (distribution job) job.depth (before_fence fence job.commands)).messages, (serial_total (distribution job) job.depth (before_fence fence job.commands)).tasks)

-- a run of the job's units, with so many workers at each rank

abbrev pub program : PlannedJob → List Doing
program job = program_from 1 (kinds_of job.operations) (λ command. told job.owners job.ranks (starting_of job.operations command job.ranks))

abbrev pub IsJobRun : PlannedJob → TaskEffects → List Mark → ℕ → Type 0
IsJobRun job task_effects log workers = IsRun job.ranks workers (program job) (MayDo job) task_effects log

-- whatever overflows, a unit does what its label allows
abbrev pub UnitsAreAllowed : Type 0
UnitsAreAllowed = (job : PlannedJob) → IsPlannedJob job → MayIsAllowed (model_job job) (MayDo job)

-- and a unit of a sound command does just what is planned
abbrev pub SoundUnitsArePlanned : Type 0
SoundUnitsArePlanned = (job : PlannedJob) (command : ℕ) → IsPlannedJob job → IsSound job command → MayIsPlanned (model_job job) (traversal job) (MayDo job) command

-- at the receipt of a fence, and from then on, the bins hold of each version that a sound command before the fence writes just the
-- entries that `held` names
abbrev pub BinsAreHeld : Type 0
BinsAreHeld =
    (job : PlannedJob) → IsPlannedJob job → (task_effects : TaskEffects) (log before : List Mark) (workers : ℕ) (x : Mark) (r : Receipt) (version command : ℕ)
    → IsJobRun job task_effects log workers → HasReceipt log before x r → writer job version ≡ Some command → IsSound job command → IsBefore (kinds_of job.operations) command r.fence
    → BinsHold job.ranks (held job) version before × BinsHold job.ranks (held job) version log

-- where all commands before a fence are sound, the rows of its receipt sum up to `total`
abbrev pub ReceiptsCount : Type 0
ReceiptsCount =
    (job : PlannedJob) → IsPlannedJob job → (task_effects : TaskEffects) (log before : List Mark) (workers : ℕ) (x : Mark) (r : Receipt)
    → IsJobRun job task_effects log workers → HasReceipt log before x r → AllSound (kinds_of job.operations) (IsSound job) r.fence → all_told r ≡ total job r.fence

-- the number of the places that a rank holds of a version is a right size, and no two of them are equal
abbrev pub SizesAreRight : Type 0
SizesAreRight = (job : PlannedJob) (rank version : ℕ) → IsPlannedJob job → IsRightSize job rank version (length (held job rank version)) × AreDifferent (held job rank version)

-- what a unit may read of a version that a sound command writes is held by the owner of its place
abbrev pub ReadsAreHeld : Type 0
ReadsAreHeld =
    (job : PlannedJob) (label : Label) (entry : CellName) (command : ℕ) → IsPlannedJob job → MayRead job label entry → writer job entry.version ≡ Some command → IsSound job command
    → Contains (held job (place_owner (distribution job) entry.place) entry.version) entry.place

-- a version whose entries a unit may count is written before a fence that its own command comes after
abbrev pub CountsComeAfter : Type 0
CountsComeAfter = (job : PlannedJob) (label : Label) (version : ℕ) → IsPlannedJob job → MayCount job label version → ComesAfter (kinds_of job.operations) (writer job version) label.command
