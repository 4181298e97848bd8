-- Lists of events, the newest first, and what is counted and found in them.
use Rattle.std.specs.Prelude.{◌≡◌, ◌⊎◌, ℕ, ◌+◌, Bool, true, false, not, ◌&&◌, ◌||◌, ◌==◌, if◌then◌else◌, List, [], ◌∷◌, ◌++◌, Option, Some, None}
use Rattle.event_lists.specs.declared.lane.LaneName.{LaneName}
use Rattle.event_lists.specs.declared.kind.Kind.{Kind}
use Rattle.event_lists.specs.declared.kind.Kind.TheVariants.{Sends as sends, Handlings as handlings, Submissions as submissions, Runs as runs}
use Rattle.event_lists.specs.declared.event.Event.{Event}
use Rattle.event_lists.specs.declared.event.Event.TheVariants.{Sent, TookMessage, TookTask, Handled, Submitted, Ran}
use Rattle.event_lists.specs.declared.event.Parcel.{Parcel}
use Rattle.event_lists.specs.declared.event.TaskName.{TaskName}
use Rattle.event_lists.specs.declared.mark.Item.{Item}
use Rattle.event_lists.specs.declared.mark.Item.TheVariants.{Message, Task}
use Rattle.event_lists.specs.declared.mark.Mark.{Mark}

abbrev pub same_bool : Bool → Bool → Bool
same_bool true b = b
same_bool false b = not b

abbrev pub same_lane : LaneName → LaneName → Bool
same_lane a b = (a.rank == b.rank) && (same_bool a.bin b.bin && (a.number == b.number))

-- the lane of a rank's main
abbrev pub main_of : ℕ → LaneName
main_of r = record { rank = r; bin = false; number = 0 }

-- the part of a lane: its own events
abbrev pub part : LaneName → List Mark → List Event
part l [] = []
part l (x ∷ log) = if same_lane x.lane l then x.event ∷ part l log else part l log

-- the list old is how the list now began
abbrev pub Begins : List Mark → List Mark → Type 0
Begins old now = (more : List Mark) × (now ≡ more ++ old)

-- the mark is in the list
abbrev pub Stands : Mark → List Mark → Type 0
Stands x [] = ⊥
Stands x (y ∷ log) = (y ≡ x) ⊎ Stands x log

-- the event is in the list, on this lane
abbrev pub StandsOn : LaneName → Event → List Mark → Type 0
StandsOn l e [] = ⊥
StandsOn l e (x ∷ log) = ((x.lane ≡ l) × (x.event ≡ e)) ⊎ StandsOn l e log

abbrev pub is_kind : Kind → Event → Bool
is_kind sends (Sent n to p) = true
is_kind handlings (Handled n r m) = true
is_kind submissions (Submitted n t) = true
is_kind runs (Ran n r t) = true
is_kind _ _ = false

-- the number that a counted event of this kind carries
abbrev pub number : Kind → Event → Option ℕ
number sends (Sent n to p) = Some n
number handlings (Handled n r m) = Some n
number submissions (Submitted n t) = Some n
number runs (Ran n r t) = Some n
number _ _ = None

abbrev pub counts : Kind → ℕ → Mark → Bool
counts k r x = (x.lane.rank == r) && is_kind k x.event

-- how many events of a kind are on the lanes of a rank
abbrev pub count : Kind → ℕ → List Mark → ℕ
count k r [] = 0
count k r (x ∷ log) = (if counts k r x then 1 else 0) + count k r log

abbrev pub same_item : Item → Item → Bool
same_item (Message r n) (Message q m) = (r == q) && (n == m)
same_item (Task r n) (Task q m) = (r == q) && (n == m)
same_item _ _ = false

abbrev pub is_item : Item → Option Item → Bool
is_item c None = false
is_item c (Some d) = same_item c d

-- the message or task that an event on a lane of this rank makes: it is sent, or submitted
abbrev pub makes : ℕ → Event → Option Item
makes r (Sent n to p) = Some (Message r n)
makes r (Submitted n t) = Some (Task r n)
makes r _ = None

-- the message or task that an event takes into the hand of its lane
abbrev pub takes : Event → Option Item
takes (TookMessage r n) = Some (Message r n)
takes (TookTask r n) = Some (Task r n)
takes _ = None

-- the message or task that an event ends: it was handled, or ran
abbrev pub ends : Event → Option Item
ends (Handled n r m) = Some (Message r m)
ends (Ran n r t) = Some (Task r t)
ends _ = None

-- how often a message was sent, or a task submitted
abbrev pub times_made : Item → List Mark → ℕ
times_made c [] = 0
times_made c (x ∷ log) = (if is_item c (makes x.lane.rank x.event) then 1 else 0) + times_made c log

-- how often a message was handled, or a task ran
abbrev pub times_ended : Item → List Mark → ℕ
times_ended c [] = 0
times_ended c (x ∷ log) = (if is_item c (ends x.event) then 1 else 0) + times_ended c log

-- whether a message or task was taken
abbrev pub is_taken : Item → List Mark → Bool
is_taken c [] = false
is_taken c (x ∷ log) = is_item c (takes x.event) || is_taken c log

abbrev pub hand_after : Event → Option Item → Option Item
hand_after (TookMessage r n) h = Some (Message r n)
hand_after (TookTask r n) h = Some (Task r n)
hand_after (Handled n r m) h = None
hand_after (Ran n r t) h = None
hand_after _ h = h

-- what a lane has in hand, by its part: a message until it is handled, or a task until it ran
abbrev pub in_hand : List Event → Option Item
in_hand [] = None
in_hand (e ∷ es) = hand_after e (in_hand es)

-- message n of rank r was sent to rank to, with this parcel
abbrev pub IsSent : ℕ → ℕ → ℕ → Parcel → List Mark → Type 0
IsSent r n to p log = (l : LaneName) × (l.rank ≡ r) × StandsOn l (Sent n to p) log

-- task n of rank r was submitted, with this name
abbrev pub IsSubmitted : ℕ → ℕ → TaskName → List Mark → Type 0
IsSubmitted r n t log = (l : LaneName) × (l.rank ≡ r) × StandsOn l (Submitted n t) log
