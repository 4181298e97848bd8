-- Which entries of a version each rank holds after the version's command.
use Rattle.std.specs.Prelude.{◌≡◌, ℕ, zero, suc, Bool, ◌&&◌, ◌||◌, not, ◌==◌, if◌then◌else◌, List, [], ◌∷◌, Option, Some, None}
use Rattle.app_core.specs.declared.label.Label.{Label}
use Rattle.app_core.specs.declared.outline.Outline.{Outline}
use Rattle.event_lists.specs.declared.receipt.Receipt.{Receipt}
use Rattle.event_lists.specs.declared.mark.Mark.{Mark}
use Rattle.event_laws.specs.Follows.{TaskEffects, IsRun}
use Rattle.event_laws.specs.Held.{HasReceipt, IsBefore, BinsHold, AreDifferent}
use Rattle.haar_units.specs.Jobs.{Operation, DistributedJob, operation_at, kinds, puts_down, puts_up}
use Rattle.haar_units.specs.Starts.{program}
use Rattle.haar_units.specs.Traversals.{Traversal, IsTraversal, MayIsPlanned}
use Rattle.haar_units.specs.Laws.{MayIsAllowed}

-- whether a command writes a version
abbrev pub writes : Operation → Bool
writes operation = puts_down operation || puts_up operation

abbrev pub writer_if : ℕ → Option Operation → Option ℕ
writer_if version None = None
writer_if version (Some operation) = if writes operation then Some version else None

-- the command that writes a version: the one with the version's number, if it writes
abbrev pub writer_of : DistributedJob → ℕ → Option ℕ
writer_of job version = writer_if version (operation_at job version)

-- the places below a bound that pass a test, from the largest down
abbrev pub places : (ℕ → Bool) → ℕ → List ℕ
places test zero = []
places test (suc place) = if test place then place ∷ places test place else places test place

-- whether a rank holds the entry of a version at a place: its command visits the key and doesn't erase it, and the rank owns it
abbrev pub is_held : DistributedJob → Traversal → ℕ → ℕ → ℕ → Bool
is_held job traversal rank version place = traversal.visits version place && (not (traversal.erases version place) && (job.owner place == rank))

-- the places of the entries of a version that a rank holds
abbrev pub holds : DistributedJob → Traversal → ℕ → ℕ → ℕ → List ℕ
holds job traversal bound rank version = places (is_held job traversal rank version) bound

-- at the receipt of a fence, and from then on, the bins hold just these entries of the version that a command before the fence
-- writes, if the units of this command do what is planned, whatever other commands do
abbrev pub BinsAreHeld : (Label → List Outline → Type 0) → Type 0
BinsAreHeld may =
    (job : DistributedJob) → MayIsAllowed job may → (traversal : Traversal) (bound version command : ℕ) → writer_of job version ≡ Some command → IsTraversal job traversal bound command → MayIsPlanned job traversal may command
    → (workers : ℕ) (task_effects : TaskEffects) (log before : List Mark) (x : Mark) (r : Receipt) → IsRun job.ranks workers (program job) may task_effects log → HasReceipt log before x r
    → IsBefore (kinds job) command r.fence
    → BinsHold job.ranks (holds job traversal bound) version before × BinsHold job.ranks (holds job traversal bound) version log

-- no place is in the list twice
abbrev pub PlacesAreDifferent : Type 0
PlacesAreDifferent = (job : DistributedJob) (traversal : Traversal) (bound rank version : ℕ) → AreDifferent (holds job traversal bound rank version)
