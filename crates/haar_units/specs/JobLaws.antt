-- The laws on receipts for jobs of `tree_model`, in the form in which an application cites them.
use Rattle.std.specs.Prelude.{◌≡◌, ℕ, ◌+◌, ◌^◌, ◌<◌, ◌≤◌, true, List, Some}
use Rattle.app_core.specs.declared.label.Label.{Label}
use Rattle.app_core.specs.declared.outline.Outline.{Outline}
use Rattle.event_lists.specs.declared.mark.Mark.{Mark}
use Rattle.event_lists.specs.declared.receipt.Receipt.{Receipt}
use Rattle.event_laws.specs.Follows.{TaskEffects, IsRun}
use Rattle.event_laws.specs.Held.{HasReceipt, IsBefore, BinsHold, fences_before, all_told}
use Rattle.tree_key.specs.Keys.{root}
use Rattle.tree_model.specs.Commands.{Command}
use Rattle.tree_model.specs.Totals.{Distribution, Visits}
use Rattle.tree_model.specs.Totals.{total_of as serial_total}
use Rattle.tree_model.specs.Versions.{Version}
use Rattle.haar_units.specs.Jobs.{Operation, operation_at, is_on_trees, kinds}
use Rattle.haar_units.specs.Starts.{program}
use Rattle.haar_units.specs.Traversals.{MayIsPlanned}
use Rattle.haar_units.specs.Laws.{MayIsAllowed}
use Rattle.haar_units.specs.Bins.{holds}
use Rattle.haar_units.specs.ModelJobs.{distributed, keys_at, version_at, traversal_of, before_fence}

-- at the receipt of a fence and from then on, the bins hold the version of a command before it, if the units of this command do
-- what is planned
abbrev pub JobBinsAreHeld : (Label → List Outline → Type 0) → Type 0
JobBinsAreHeld may =
    (distribution : Distribution) (depth : ℕ) (commands : List Command) → MayIsAllowed (distributed distribution commands) may
    → (number : ℕ) (version : Version) → version_at depth commands number ≡ Some version → MayIsPlanned (distributed distribution commands) (traversal_of depth commands) may number
    → (workers : ℕ) (task_effects : TaskEffects) (log before : List Mark) (x : Mark) (r : Receipt)
    → IsRun distribution.ranks workers (program (distributed distribution commands)) may task_effects log → HasReceipt log before x r
    → IsBefore (kinds (distributed distribution commands)) number r.fence
    → BinsHold distribution.ranks (holds (distributed distribution commands) (traversal_of depth commands) (2 ^ (depth + 1))) number before
    × BinsHold distribution.ranks (holds (distributed distribution commands) (traversal_of depth commands) (2 ^ (depth + 1))) number log

-- the rows of the receipt add up to the numbers that the receipts of the model have at this fence, if each command before it finds
-- the trees that it reads and its units do what is planned
abbrev pub JobReceiptsAreSerial : (Label → List Outline → Type 0) → Type 0
JobReceiptsAreSerial may =
    (distribution : Distribution) (depth : ℕ) (commands : List Command) → MayIsAllowed (distributed distribution commands) may → 1 ≤ distribution.ranks → distribution.owner root ≡ 0
    → (workers : ℕ) (task_effects : TaskEffects) (log before : List Mark) (x : Mark) (r : Receipt)
    → IsRun distribution.ranks workers (program (distributed distribution commands)) may task_effects log → HasReceipt log before x r
    → ((number : ℕ) (operation : Operation) → fences_before number (kinds (distributed distribution commands)) < r.fence → operation_at (distributed distribution commands) number ≡ Some operation
    → is_on_trees operation ≡ true → (keys : Visits) × (keys_at depth commands number ≡ Some keys))
    → ((number : ℕ) (operation : Operation) → fences_before number (kinds (distributed distribution commands)) < r.fence → operation_at (distributed distribution commands) number ≡ Some operation
    → MayIsPlanned (distributed distribution commands) (traversal_of depth commands) may number)
    → all_told r ≡ ((serial_total distribution depth (before_fence r.fence commands)).messages, (serial_total distribution depth (before_fence r.fence commands)).tasks)
