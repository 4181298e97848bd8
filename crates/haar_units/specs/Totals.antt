-- How many messages and tasks the commands before a fence have.
use Rattle.std.specs.Prelude.{◌≡◌, ℕ, zero, suc, ◌+◌, ◌-◌, ◌*◌, ◌/◌, ◌≤◌, ◌<◌, nat_lt, Bool, true, ◌&&◌, not, ◌==◌, if◌then◌else◌, List, length, Option, Some, None}
use Rattle.app_core.specs.declared.label.Label.{Label}
use Rattle.app_core.specs.declared.outline.Outline.{Outline}
use Rattle.event_lists.specs.declared.receipt.Receipt.{Receipt}
use Rattle.event_lists.specs.declared.mark.Mark.{Mark}
use Rattle.event_laws.specs.Follows.{TaskEffects, IsRun}
use Rattle.event_laws.specs.Held.{HasReceipt, fences_before, all_told}
use Rattle.haar_units.specs.Jobs.{Operation, DistributedJob, operation_at, kinds, is_on_trees}
use Rattle.haar_units.specs.Starts.{program}
use Rattle.haar_units.specs.Jobs.Operation.{Size, Fence}
use Rattle.haar_units.specs.Traversals.{Traversal, IsTraversal, MayIsPlanned}
use Rattle.haar_units.specs.Laws.{MayIsAllowed}

-- f 0 + f 1 + .. + f (n - 1)
abbrev pub sum_to : (ℕ → ℕ) → ℕ → ℕ
sum_to f zero = 0
sum_to f (suc n) = f n + sum_to f n

abbrev pub one_if : Bool → ℕ
one_if b = if b then 1 else 0

-- how many places below a bound pass a test
abbrev pub count_below : (ℕ → Bool) → ℕ → ℕ
count_below test bound = sum_to (λ place. one_if (test place)) bound

-- whether a key other than the root has another owner than its parent
abbrev pub changes_owner : DistributedJob → ℕ → Bool
changes_owner job place = nat_lt 1 place && not (job.owner place == job.owner (place / 2))

-- tasks of one command: visited keys, visited keys with visited children, and erased keys; `size` has a count for each rank and a
-- sum
abbrev pub tasks_of : DistributedJob → Traversal → ℕ → ℕ → Operation → ℕ
tasks_of job traversal bound command Size = job.ranks + 1
tasks_of job traversal bound command Fence = 0
tasks_of job traversal bound command _ =
    count_below (traversal.visits command) bound + count_below (λ place. traversal.visits command place && traversal.visits command (2 * place)) bound + count_below (traversal.erases command) bound

-- messages of one command: two for each visited key with another owner than its parent, and one for each such erased key; `size`
-- has two for each rank but rank 0
abbrev pub messages_of : DistributedJob → Traversal → ℕ → ℕ → Operation → ℕ
messages_of job traversal bound command Size = 2 * (job.ranks - 1)
messages_of job traversal bound command Fence = 0
messages_of job traversal bound command _ =
    2 * count_below (λ place. traversal.visits command place && changes_owner job place) bound + count_below (λ place. traversal.erases command place && changes_owner job place) bound

abbrev pub of_operation : (Operation → ℕ) → Option Operation → ℕ
of_operation count_unit None = 0
of_operation count_unit (Some operation) = count_unit operation

-- a count of each command, added up over the commands before a fence
abbrev pub total_by : DistributedJob → (ℕ → Operation → ℕ) → ℕ → ℕ
total_by job count_unit fence = sum_to (λ command. if nat_lt (fences_before command (kinds job)) fence then of_operation (count_unit command) (operation_at job command) else 0) (suc (length job.operations))

-- the numbers of messages and of tasks of the commands before a fence
abbrev pub total_of : DistributedJob → Traversal → ℕ → ℕ → ℕ × ℕ
total_of job traversal bound fence = (total_by job (messages_of job traversal bound) fence, total_by job (tasks_of job traversal bound) fence)

-- where the units of all commands before a fence do what is planned, and rank 0 owns the root, the rows of the fence's receipt add
-- up to these numbers
abbrev pub ReceiptsCountTheTotals : (Label → List Outline → Type 0) → Type 0
ReceiptsCountTheTotals may =
    (job : DistributedJob) → MayIsAllowed job may → 1 ≤ job.ranks → job.owner 1 ≡ 0 → (traversal : Traversal) (bound workers : ℕ) (task_effects : TaskEffects) (log before : List Mark) (x : Mark) (r : Receipt) → IsRun job.ranks workers (program job) may task_effects log → HasReceipt log before x r
    → ((command : ℕ) (operation : Operation) → fences_before command (kinds job) < r.fence → operation_at job command ≡ Some operation → is_on_trees operation ≡ true → IsTraversal job traversal bound command)
    → ((command : ℕ) (operation : Operation) → fences_before command (kinds job) < r.fence → operation_at job command ≡ Some operation → MayIsPlanned job traversal may command)
    → all_told r ≡ total_of job traversal bound r.fence
