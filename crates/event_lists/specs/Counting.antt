-- The first part of what an event asks of the list before it: numbers, and what is in hand.
use Rattle.std.specs.Prelude.{◌≡◌, ◌≢◌, ℕ, ◌<◌, false, List, Option, Some, None}
use Rattle.event_lists.specs.declared.lane.LaneName.{LaneName}
use Rattle.event_lists.specs.declared.event.Event.{Event}
use Rattle.event_lists.specs.declared.event.Event.TheVariants.{Sent, TookMessage, TookTask, Handled, Submitted, Ran}
use Rattle.event_lists.specs.declared.event.Parcel.{Parcel}
use Rattle.event_lists.specs.declared.event.TaskName.{TaskName}
use Rattle.event_lists.specs.declared.mark.Item.{Item}
use Rattle.event_lists.specs.declared.mark.Item.TheVariants.{Message, Task}
use Rattle.event_lists.specs.declared.mark.Mark.{Mark}
use Rattle.event_lists.specs.declared.kind.Kind.TheVariants.{Sends as sends, Handlings as handlings, Submissions as submissions, Runs as runs}
use Rattle.event_lists.specs.Events.{main_of, count, in_hand, is_taken, IsSent, IsSubmitted}

-- a task is in hand; or nothing is, and the lane is a main's
abbrev pub MaySpawn : LaneName → Option Item → Type 0
MaySpawn l None = l ≡ main_of l.rank
MaySpawn l (Some (Task r n)) = Unit {0}
MaySpawn l (Some (Message r n)) = ⊥

-- the same, or a message is in hand
abbrev pub MaySubmit : LaneName → Option Item → Type 0
MaySubmit l (Some (Message r n)) = Unit {0}
MaySubmit l h = MaySpawn l h

-- l is the lane of the event, and mine the lane's own part of the list
abbrev pub Counting : ℕ → List Mark → LaneName → List Event → Event → Type 0
Counting ranks log l mine (Sent n to p) = (n ≡ count sends l.rank log) × MaySpawn l (in_hand mine) × (to < ranks) × (to ≢ l.rank)
Counting ranks log l mine (TookMessage r n) = (in_hand mine ≡ None) × ((p : Parcel) × IsSent r n l.rank p log) × (is_taken (Message r n) log ≡ false)
Counting ranks log l mine (TookTask r n) = (in_hand mine ≡ None) × (r ≡ l.rank) × ((t : TaskName) × IsSubmitted r n t log) × (is_taken (Task r n) log ≡ false)
Counting ranks log l mine (Handled n r m) = (n ≡ count handlings l.rank log) × (in_hand mine ≡ Some (Message r m))
Counting ranks log l mine (Submitted n t) = (n ≡ count submissions l.rank log) × MaySubmit l (in_hand mine)
Counting ranks log l mine (Ran n r t) = (n ≡ count runs l.rank log) × (in_hand mine ≡ Some (Task r t))
Counting ranks log l mine _ = Unit {0}
