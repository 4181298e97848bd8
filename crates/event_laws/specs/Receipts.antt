-- What holds at each receipt of a run, for any application: all that comes before the fence is done, and nothing of it
-- comes later.
use Rattle.std.specs.Prelude.{◌≡◌, ◌↔◌, ◌⊎◌, ℕ, ◌<◌, Bool, true, List, ◌∷◌, Option, Some, take, slice_get, Contains}
use Rattle.app_core.specs.declared.label.Label.{Label}
use Rattle.app_core.specs.declared.label.CellName.{CellName}
use Rattle.app_core.specs.declared.outline.Outline.{Outline}
use Rattle.app_core.specs.declared.outline.Outline.TheVariants as of
use Rattle.app_core.specs.declared.outline.CommandKind.{CommandKind}
use Rattle.app_core.specs.Commands.{IsWork}
use Rattle.event_lists.specs.declared.lane.LaneName.{LaneName}
use Rattle.event_lists.specs.declared.event.Event.TheVariants.{Put, Erased}
use Rattle.event_lists.specs.declared.event.Parcel.{Parcel}
use Rattle.event_lists.specs.declared.event.TaskName.{TaskName}
use Rattle.event_lists.specs.declared.receipt.Receipt.{Receipt}
use Rattle.event_lists.specs.declared.mark.Mark.{Mark}
use Rattle.event_lists.specs.Events.{part, IsSent, IsSubmitted}
use Rattle.event_lists.specs.Fences.{has_receipt}
use Rattle.event_lists.specs.Bins.{is_put}
use Rattle.event_laws.specs.Follows.{TaskEffects, Doing, Start, IsRun, program_from, bin_of}
use Rattle.event_laws.specs.Trees.{unit_of}
use Rattle.event_laws.specs.Apart.{Apart, spawned, EffectsApart}
use Rattle.event_laws.specs.Stages.{fences_in, IsStaged, Comes, IsOfFence, AreUnits, UnitHas}
use Rattle.event_laws.specs.Done.{IsDone, HasDone, IsHandedOn}
use Rattle.event_laws.specs.Held.{HasReceipt, fences_before, all_told}
use Rattle.event_laws.specs.Totals.{totals_of}

-- each task that was submitted before the receipt has carried out all of its effects
abbrev pub TasksAreDone : ℕ → List Doing → (Label → List Outline → Type 0) → Type 0
TasksAreDone ranks program may =
    (workers : ℕ) (task_effects : TaskEffects) (log before : List Mark) (x : Mark) (r : Receipt) → IsRun ranks workers program may task_effects log → HasReceipt log before x r
    → (rank number : ℕ) (t : TaskName) → IsSubmitted rank number t before → (os : List Outline) × IsDone may task_effects before rank t.unit os

-- what each message carries that was sent before the receipt was delivered at the rank that it was sent to
abbrev pub MessagesAreHandedOn : ℕ → List Doing → (Label → List Outline → Type 0) → Type 0
MessagesAreHandedOn ranks program may =
    (workers : ℕ) (task_effects : TaskEffects) (log before : List Mark) (x : Mark) (r : Receipt) → IsRun ranks workers program may task_effects log → HasReceipt log before x r
    → (rank number to : ℕ) (p : Parcel) → IsSent rank number to p before → IsHandedOn to p before

-- each start that comes before the fence in the program has its unit done at its home
abbrev pub StartsAreDone : ℕ → List Doing → (Label → List Outline → Type 0) → Type 0
StartsAreDone ranks program may =
    (workers : ℕ) (task_effects : TaskEffects) (log before : List Mark) (x : Mark) (r : Receipt) → IsRun ranks workers program may task_effects log → HasReceipt log before x r
    → (k : ℕ) (u : Label) (d : Option Label) (ns : List Label) (home : ℕ) → slice_get program k ≡ Some (Start (of.Spawn u d ns home)) → fences_in (take k program) < r.fence
    → (os : List Outline) × IsDone may task_effects before home u os

-- and so has each spawn of a unit that is done
abbrev pub SpawnsAreDone : ℕ → List Doing → (Label → List Outline → Type 0) → Type 0
SpawnsAreDone ranks program may =
    (workers : ℕ) (task_effects : TaskEffects) (log before : List Mark) (x : Mark) (r : Receipt) → IsRun ranks workers program may task_effects log → HasReceipt log before x r
    → (rank : ℕ) (p : Label) (os : List Outline) → IsDone may task_effects before rank p os
    → (i : ℕ) (u : Label) (d : Option Label) (ns : List Label) (home : ℕ) → slice_get os i ≡ Some (of.Spawn u d ns home)
    → (qs : List Outline) × IsDone may task_effects before home u qs

-- a task that is before the fence by its label was submitted before the receipt
abbrev pub NothingComesLater : ℕ → List Doing → (Label → List Outline → Type 0) → Type 0
NothingComesLater ranks program may =
    (stage : Label → ℕ) → IsStaged program may stage
    → (workers : ℕ) (task_effects : TaskEffects) (log before : List Mark) (x : Mark) (r : Receipt) → IsRun ranks workers program may task_effects log → HasReceipt log before x r
    → (rank number : ℕ) (t : TaskName) → IsSubmitted rank number t log → stage t.unit < r.fence → IsSubmitted rank number t before

-- and what was submitted before it comes up, and is before the fence by its label
abbrev pub NothingComesEarlier : ℕ → List Doing → (Label → List Outline → Type 0) → Type 0
NothingComesEarlier ranks program may =
    (stage : Label → ℕ) → IsStaged program may stage
    → (workers : ℕ) (task_effects : TaskEffects) (log before : List Mark) (x : Mark) (r : Receipt) → IsRun ranks workers program may task_effects log → HasReceipt log before x r
    → (rank number : ℕ) (t : TaskName) → IsSubmitted rank number t before → Comes program may t.unit rank × (stage t.unit < r.fence)

-- where labels have their commands, they tell how many fences come before
abbrev pub StagesAreTold : List CommandKind → (ℕ → List Outline) → (Label → List Outline → Type 0) → Type 0
StagesAreTold kinds starts may =
    ((command i : ℕ) (o : Outline) (u : Label) → IsWork kinds command → slice_get (starts command) i ≡ Some o → unit_of o ≡ Some u → u.command ≡ command)
    → ((p : Label) (os : List Outline) (i : ℕ) (o : Outline) (u : Label) → may p os → slice_get os i ≡ Some o → unit_of o ≡ Some u → u.command ≡ p.command)
    → IsStaged (program_from 1 kinds starts) may (λ u. fences_before u.command kinds)

-- an entry lies in its bin at the receipt where a unit that is done puts it and none erases it
abbrev pub EntriesLie : ℕ → List Doing → (Label → List Outline → Type 0) → Type 0
EntriesLie ranks program may =
    (workers : ℕ) (task_effects : TaskEffects) (log before : List Mark) (x : Mark) (r : Receipt) → IsRun ranks workers program may task_effects log → HasReceipt log before x r
    → EffectsApart (λ c. of.Put c) task_effects → (l : LaneName) (c : CellName)
    → (is_put c (part l before) ≡ true) ↔ (HasDone may task_effects before l.rank (of.Put c) × (HasDone may task_effects before l.rank (of.Erase c) → ⊥) × (l ≡ bin_of l.rank c))

-- where only units before the fence put or erase the entry, it lies there from then on, or not
abbrev pub EntriesStay : ℕ → List Doing → (Label → List Outline → Type 0) → Type 0
EntriesStay ranks program may =
    (stage : Label → ℕ) → IsStaged program may stage
    → (workers : ℕ) (task_effects : TaskEffects) (log before : List Mark) (x : Mark) (r : Receipt) → IsRun ranks workers program may task_effects log → HasReceipt log before x r
    → (c : CellName) → ((p : Label) (os : List Outline) (i : ℕ) (o : Outline) → may p os → slice_get os i ≡ Some o → (o ≡ of.Put c) ⊎ (o ≡ of.Erase c) → stage p < r.fence)
    → (l : LaneName) → is_put c (part l log) ≡ is_put c (part l before)

-- only units before the fence put or erase the entry
abbrev pub IsWrittenBefore : (Label → List Outline → Type 0) → (Label → ℕ) → ℕ → CellName → Type 0
IsWrittenBefore may stage fence c = (p : Label) (os : List Outline) (i : ℕ) (o : Outline) → may p os → slice_get os i ≡ Some o → (o ≡ of.Put c) ⊎ (o ≡ of.Erase c) → stage p < fence

-- such an entry isn't put or erased after the fence has a receipt
abbrev pub NoneIsWrittenLater : ℕ → List Doing → (Label → List Outline → Type 0) → Type 0
NoneIsWrittenLater ranks program may =
    (stage : Label → ℕ) → IsStaged program may stage
    → (workers : ℕ) (task_effects : TaskEffects) (log : List Mark) (x : Mark) → IsRun ranks workers program may task_effects (x ∷ log)
    → (c : CellName) → (x.event ≡ Put c) ⊎ (x.event ≡ Erased c) → (fence : ℕ) → has_receipt fence log ≡ true → IsWrittenBefore may stage fence c → ⊥

-- so it isn't where its version is dropped at the fence
abbrev pub NoDroppedIsWritten : ℕ → List Doing → (Label → List Outline → Type 0) → (ℕ → List ℕ) → Type 0
NoDroppedIsWritten ranks program may dropped =
    (workers : ℕ) (task_effects : TaskEffects) (log : List Mark) (x : Mark) → IsRun ranks workers program may task_effects (x ∷ log)
    → (c : CellName) → (x.event ≡ Put c) ⊎ (x.event ≡ Erased c) → (fence : ℕ) → has_receipt fence log ≡ true → Contains (dropped fence) c.version → ⊥

-- the units of a kind, which a test tells, are done at their homes, and no task of the kind is another
abbrev pub UnitsAreDone : ℕ → List Doing → (Label → List Outline → Type 0) → Type 0
UnitsAreDone ranks program may =
    (stage : Label → ℕ) (test : Label → Bool) (plan : Label → List Outline) (home : Label → ℕ) (us : List Label)
    → IsStaged program may stage → AreUnits program may (λ u. test u ≡ true) plan home us
    → (workers : ℕ) (task_effects : TaskEffects) (log before : List Mark) (x : Mark) (r : Receipt) → IsRun ranks workers program may task_effects log → HasReceipt log before x r
    → IsOfFence may stage r.fence (λ u. test u ≡ true)
    → ((u : Label) → Contains us u → IsDone may task_effects before (home u) u (plan u))
    × ((rank number : ℕ) (t : TaskName) → IsSubmitted rank number t before → test t.unit ≡ true → Contains us t.unit × (rank ≡ home t.unit))

-- an entry that only such units put or erase lies in its bin, from the receipt on, where one of them puts it and none
-- erases it
abbrev pub UnitsFillTheBins : ℕ → List Doing → (Label → List Outline → Type 0) → Type 0
UnitsFillTheBins ranks program may =
    (stage : Label → ℕ) (test : Label → Bool) (plan : Label → List Outline) (home : Label → ℕ) (us : List Label)
    → IsStaged program may stage → AreUnits program may (λ u. test u ≡ true) plan home us
    → (workers : ℕ) (task_effects : TaskEffects) (log before : List Mark) (x : Mark) (r : Receipt) → IsRun ranks workers program may task_effects log → HasReceipt log before x r
    → IsOfFence may stage r.fence (λ u. test u ≡ true) → EffectsApart (λ c. of.Put c) task_effects
    → (c : CellName) → ((p : Label) (os : List Outline) (i : ℕ) (o : Outline) → may p os → slice_get os i ≡ Some o → (o ≡ of.Put c) ⊎ (o ≡ of.Erase c) → test p ≡ true)
    → (l : LaneName)
    → ((is_put c (part l before) ≡ true) ↔ (UnitHas plan home us l.rank (of.Put c) × (UnitHas plan home us l.rank (of.Erase c) → ⊥) × (l ≡ bin_of l.rank c)))
    × (is_put c (part l log) ≡ is_put c (part l before))

-- where these are just the units before a fence, its receipt counts as many tasks, and as many messages as their effects
-- and the starts before the fence send
abbrev pub TotalsAreCounted : ℕ → List Doing → (Label → List Outline → Type 0) → Type 0
TotalsAreCounted ranks program may =
    (stage : Label → ℕ) (plan : Label → List Outline) (home : Label → ℕ) (us : List Label) → IsStaged program may stage
    → (workers : ℕ) (task_effects : TaskEffects) (log before : List Mark) (x : Mark) (r : Receipt) → IsRun ranks workers program may task_effects log → HasReceipt log before x r
    → Apart (spawned log) → AreUnits program may (λ u. stage u < r.fence) plan home us
    → all_told r ≡ totals_of r.fence program plan home us
