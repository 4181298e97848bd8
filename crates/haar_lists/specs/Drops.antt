-- The versions that a job's plan drops at its fences, and what holds of them.
use Rattle.std.specs.Prelude.{◌≡◌, ◌≤◌, ℕ, zero, suc, true, false, List, slice_get, Some, Contains}
use Rattle.std.specs.Option.{option_map_or}
use Rattle.app_core.specs.declared.Label.{Label}
use Rattle.app_core.specs.declared.CellName.{CellName}
use Rattle.event_laws.specs.Held.{IsBefore}
use Rattle.job_data.specs.declared.step.Step.{Step}
use Rattle.job_data.specs.Drops.{reads_version, dropped_at}
use Rattle.job_data.specs.Versions.{plan_of}
use Rattle.haar_units.specs.Drops.{Readers, dropped_of}
use Rattle.haar_meaning.specs.PlannedJobs.{PlannedJob, IsPlannedJob, job_of}
use Rattle.haar_steps.specs.Starts.{kinds_of}
use Rattle.haar_lists.specs.Lists.{MayRead, MayCount, model_job, writer}

-- the step of each command: what it reads and writes, and the fence that ends it
abbrev pub plan_steps : PlannedJob → List Step
plan_steps job = plan_of (job_of job)

-- the versions that are dropped at the fence of a number, as the job's plan says: those that are written before it and that no
-- command after it reads, each at the first such fence
abbrev pub dropped : PlannedJob → ℕ → List ℕ
dropped job fence = dropped_at (plan_steps job) fence

-- which command reads, or counts the entries of, which version, by the command's step; commands are numbered from 1
abbrev pub readers : List Step → Readers
readers steps zero version = false
readers steps (suc before) version = option_map_or (reads_version version) (slice_get steps before) false

-- so say the units as plain data, too: a version is dropped at the first fence that comes after its command and after all that
-- read it
abbrev pub DropsAreOfUnits : Type 0
DropsAreOfUnits = (job : PlannedJob) (fence : ℕ) → dropped_of (model_job job) (readers (plan_steps job)) fence ≡ dropped job fence

-- a dropped version is written by a command before the fence
abbrev pub DropsAreWritten : Type 0
DropsAreWritten =
    (job : PlannedJob) (fence version : ℕ) → IsPlannedJob job → Contains (dropped job fence) version
    → (command : ℕ) × (writer job version ≡ Some command) × IsBefore (kinds_of job.operations) command fence

-- it is dropped at one fence, once
abbrev pub DropsComeOnce : Type 0
DropsComeOnce =
    (job : PlannedJob) (fence other index place version : ℕ)
    → slice_get (dropped job fence) index ≡ Some version → slice_get (dropped job other) place ≡ Some version
    → (fence ≡ other) × (index ≡ place)

-- and each version that is written before a fence, and that no command after the fence reads, is dropped there or at an earlier
-- one
abbrev pub EachIsDropped : Type 0
EachIsDropped =
    (job : PlannedJob) (fence version command : ℕ) → IsPlannedJob job → writer job version ≡ Some command → IsBefore (kinds_of job.operations) command fence
    → ((reader : ℕ) → readers (plan_steps job) reader version ≡ true → IsBefore (kinds_of job.operations) reader fence)
    → (earlier : ℕ) × (earlier ≤ fence) × Contains (dropped job earlier) version

-- only units of commands before the fence may read one of its entries
abbrev pub DropsStayUnread : Type 0
DropsStayUnread =
    (job : PlannedJob) (fence : ℕ) (label : Label) (entry : CellName) → IsPlannedJob job → Contains (dropped job fence) entry.version
    → MayRead job label entry → IsBefore (kinds_of job.operations) label.command fence

-- or count its entries
abbrev pub DropsStayUncounted : Type 0
DropsStayUncounted =
    (job : PlannedJob) (fence : ℕ) (label : Label) (version : ℕ) → IsPlannedJob job → Contains (dropped job fence) version
    → MayCount job label version → IsBefore (kinds_of job.operations) label.command fence
