-- What holds of every legal list.
use Rattle.std.specs.Prelude.{◌≡◌, ℕ, suc, ◌<◌, ◌≤◌, Bool, true, false, List, ◌∷◌, Option, Some, None, map}
use Rattle.app_core.specs.declared.label.Label.{Label}
use Rattle.event_lists.specs.declared.lane.LaneName.{LaneName}
use Rattle.event_lists.specs.declared.event.Event.{Event}
use Rattle.event_lists.specs.declared.event.Parcel.TheVariants.{Unit as Spawned, Give}
use Rattle.event_lists.specs.declared.event.TaskName.{TaskName}
use Rattle.event_lists.specs.declared.event.Event.TheVariants.{Sent, TookMessage, TookTask, Handled, Submitted, Ran, Gave, Receipt as Receives}
use Rattle.event_lists.specs.declared.receipt.Receipt.{Receipt}
use Rattle.event_lists.specs.declared.mark.Item.{Item}
use Rattle.event_lists.specs.declared.mark.Item.TheVariants.{Message, Task}
use Rattle.event_lists.specs.declared.mark.Mark.{Mark}
use Rattle.event_lists.specs.declared.kind.Kind.{Kind}
use Rattle.event_lists.specs.Events.{Begins, StandsOn, part, main_of, count, makes, times_made, times_ended}
use Rattle.event_lists.specs.declared.future.Future.{Future}
use Rattle.event_lists.specs.Futures.{due_of, needs_of, times_given}
use Rattle.event_lists.specs.Fences.{row_of, IsComplete}
use Rattle.event_lists.specs.Quiet.{Quiet}
use Rattle.event_lists.specs.Legal.{Legal}

-- how a legal list began is legal
abbrev pub BeginningsAreLegal : Type 0
BeginningsAreLegal = (ranks workers : ℕ) (old log : List Mark) → Begins old log → Legal ranks workers log → Legal ranks workers old

-- what was handled or ran was sent or submitted, and no more than once. Since this holds of each beginning too, it was
-- sent or submitted before
abbrev pub EndsOnceAfterMade : Item → Type 0
EndsOnceAfterMade c = (ranks workers : ℕ) (log : List Mark) → Legal ranks workers log → (times_ended c log ≤ times_made c log) × (times_made c log ≤ 1)

abbrev pub MessagesAreHandledOnce : Type 0
MessagesAreHandledOnce = (r n : ℕ) → EndsOnceAfterMade (Message r n)

abbrev pub TasksRunOnce : Type 0
TasksRunOnce = (r n : ℕ) → EndsOnceAfterMade (Task r n)

-- a future is given at most once
abbrev pub FuturesAreGivenOnce : Type 0
FuturesAreGivenOnce = (ranks workers : ℕ) (log : List Mark) → Legal ranks workers log → (f : Future) → times_given f log ≤ 1

abbrev pub label_of : Option Future → Option Label
label_of None = None
label_of (Some f) = Some f.label

-- the label of the due of what an event makes, by its own words
abbrev pub named_due : Event → Option Label
named_due (Sent n to (Spawned u d)) = d
named_due (Sent n to (Give d)) = Some d
named_due (Submitted n t) = t.due
named_due _ = None

-- the future that a message or task has as its due has the label that its event names
abbrev pub DuesAreNamed : Type 0
DuesAreNamed =
    (ranks workers : ℕ) (log : List Mark) → Legal ranks workers log → (l : LaneName) (e : Event) (c : Item) → makes l.rank e ≡ Some c → StandsOn l e log → label_of (due_of c log) ≡ named_due e

-- the futures that a task needs have the labels that its name has, in their order
abbrev pub NeedsAreNamed : Type 0
NeedsAreNamed =
    (ranks workers : ℕ) (log : List Mark) → Legal ranks workers log → (l : LaneName) (n : ℕ) (t : TaskName) → StandsOn l (Submitted n t) log → map (λ f. f.label) (needs_of (Task l.rank n) log) ≡ t.needs

-- x is the receipt r, and a legal list ends with it; p is the pass before its own
pub record Received (ranks workers : ℕ) (before : List Mark) (x : Mark) (r : Receipt) (p : ℕ) : Type 0 where
  pub legal : Legal ranks workers (x ∷ before)
  pub is : x.event ≡ Receives r
  pub last : r.pass ≡ suc p

-- agreement of the sums makes the rows of the two passes equal at each rank
abbrev pub CountsAreFrozen : Type 0
CountsAreFrozen =
    (ranks workers : ℕ) (before : List Mark) (x : Mark) (r : Receipt) (p : ℕ) → Received ranks workers before x r p
    → (q : ℕ) → q < ranks → row_of r.fence p (part (main_of q) before) ≡ row_of r.fence (suc p) (part (main_of q) before)

-- at a moment at which the first of the two passes is complete at every rank, all that was sent is handled, and all that
-- was submitted has run
abbrev pub NothingIsOpen : Type 0
NothingIsOpen =
    (ranks workers : ℕ) (before : List Mark) (x : Mark) (r : Receipt) (p : ℕ) → Received ranks workers before x r p
    → (at : List Mark) → Begins at before → IsComplete ranks r.fence p at → (c : Item) → times_ended c at ≡ times_made c at

-- from such a moment up to the receipt no count changes
abbrev pub NothingChanges : Type 0
NothingChanges =
    (ranks workers : ℕ) (before : List Mark) (x : Mark) (r : Receipt) (p : ℕ) → Received ranks workers before x r p
    → (at : List Mark) → Begins at before → IsComplete ranks r.fence p at → (k : Kind) (q : ℕ) → count k q before ≡ count k q at

-- an event sends, takes, handles, submits, runs or gives
abbrev pub is_work : Event → Bool
is_work (Sent n to p) = true
is_work (TookMessage r n) = true
is_work (TookTask r n) = true
is_work (Handled n r m) = true
is_work (Submitted n t) = true
is_work (Ran n r t) = true
is_work (Gave f) = true
is_work _ = false

-- and no event between works
abbrev pub NothingIsDone : Type 0
NothingIsDone =
    (ranks workers : ℕ) (before : List Mark) (x : Mark) (r : Receipt) (p : ℕ) → Received ranks workers before x r p
    → (at : List Mark) → IsComplete ranks r.fence p at → (y : Mark) (earlier : List Mark) → Begins at earlier → Begins (y ∷ earlier) before → is_work y.event ≡ false

-- each due of a message or task that was sent or submitted before the receipt was given once before it
abbrev pub DuesAreGiven : Type 0
DuesAreGiven =
    (ranks workers : ℕ) (before : List Mark) (x : Mark) (r : Receipt) (p : ℕ) → Received ranks workers before x r p
    → (c : Item) (f : Future) → due_of c before ≡ Some f → times_given f before ≡ 1

-- each receipt of a legal list is quiet
abbrev pub ReceiptsAreQuiet : Type 0
ReceiptsAreQuiet =
    (ranks workers : ℕ) (whole before : List Mark) (x : Mark) (r : Receipt) → Legal ranks workers whole → Begins (x ∷ before) whole → x.event ≡ Receives r → Quiet whole before r
