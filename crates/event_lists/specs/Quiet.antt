-- What a receipt tells: the list before it is quiet.
use Rattle.std.specs.Prelude.{◌≡◌, ◌↔◌, ℕ, ◌<◌, List, ◌∷◌, Some, slice_get}
use Rattle.event_lists.specs.declared.lane.LaneName.{LaneName}
use Rattle.event_lists.specs.declared.event.Event.TheVariants.{Handled}
use Rattle.event_lists.specs.declared.event.Parcel.{Parcel}
use Rattle.event_lists.specs.declared.event.TaskName.{TaskName}
use Rattle.event_lists.specs.declared.receipt.Row.{Row}
use Rattle.event_lists.specs.declared.receipt.Receipt.{Receipt}
use Rattle.event_lists.specs.declared.mark.Item.{Item}
use Rattle.event_lists.specs.declared.mark.Item.TheVariants.{Message, Task}
use Rattle.event_lists.specs.declared.mark.Mark.{Mark}
use Rattle.event_lists.specs.declared.kind.Kind.{Kind}
use Rattle.event_lists.specs.declared.kind.Kind.TheVariants.{Sends as sends, Handlings as handlings, Submissions as submissions, Runs as runs}
use Rattle.event_lists.specs.Events.{Begins, Stands, StandsOn, number, takes, times_ended, IsSent, IsSubmitted}
use Rattle.event_lists.specs.declared.future.Future.{Future}
use Rattle.event_lists.specs.Futures.{needs_of, times_given, IsIn}

-- the number that a row names for a kind: submissions and runs have one
abbrev pub named : Kind → Row → ℕ
named sends row = row.sent
named handlings row = row.handled
named submissions row = row.tasks
named runs row = row.tasks

-- the counted events of a rank before the receipt are those of the whole list with numbers below the rank's row
abbrev pub IsCut : List Mark → List Mark → Receipt → Type 0
IsCut whole before r =
    (k : Kind) (n : ℕ) (x : Mark) → number k x.event ≡ Some n → Stands x whole → (row : Row) × (slice_get r.rows x.lane.rank ≡ Some row) × (Stands x before ↔ (n < named k row))

-- each message sent was handled once, on a lane of the rank that it was sent to
abbrev pub AllHandledOnce : List Mark → Type 0
AllHandledOnce log =
    (r n to : ℕ) (p : Parcel) → IsSent r n to p log → (times_ended (Message r n) log ≡ 1) × ((l : LaneName) × (m : ℕ) × (l.rank ≡ to) × StandsOn l (Handled m r n) log)

-- each task submitted ran once
abbrev pub AllRanOnce : List Mark → Type 0
AllRanOnce log = (r n : ℕ) (t : TaskName) → IsSubmitted r n t log → times_ended (Task r n) log ≡ 1

-- a future was given once before a task was taken
abbrev pub GivenBefore : Future → Item → List Mark → Type 0
GivenBefore f c log = (x : Mark) × (earlier : List Mark) × Begins (x ∷ earlier) log × (takes x.event ≡ Some c) × (times_given f earlier ≡ 1)

-- each need of each task submitted was given once, before the task was taken
abbrev pub AllNeedsGivenOnce : List Mark → Type 0
AllNeedsGivenOnce log =
    (r n : ℕ) (t : TaskName) → IsSubmitted r n t log → (f : Future) → IsIn f (needs_of (Task r n) log) → (times_given f log ≡ 1) × GivenBefore f (Task r n) log

-- a receipt is quiet, of the whole list and the list before it
pub record Quiet (whole before : List Mark) (r : Receipt) : Type 0 where
  pub cut : IsCut whole before r
  pub messages : AllHandledOnce before
  pub tasks_ran : AllRanOnce before
  pub needs_given : AllNeedsGivenOnce before
