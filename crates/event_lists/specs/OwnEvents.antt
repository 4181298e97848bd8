-- What a lane's own events tell of the whole list, and what an event asks of its lane alone.
use Rattle.std.specs.Prelude.{◌≡◌, ℕ, suc, ◌+◌, ◌≤◌, Bool, true, false, ◌&&◌, ◌||◌, if◌then◌else◌, List, [], ◌∷◌, Option, Some, None}
use Rattle.std.specs.List.{list_any}
use Rattle.app_core.specs.declared.label.Label.{Label}
use Rattle.app_core.specs.Outlines.{is_due, same_label}
use Rattle.event_lists.specs.declared.lane.LaneName.{LaneName}
use Rattle.event_lists.specs.declared.event.Event.{Event}
use Rattle.event_lists.specs.declared.event.Event.TheVariants.{Sent, TookTask, Submitted, Ran, ReadHandled, ReadRan, ReadSubmitted, ReadSent, Enter}
use Rattle.event_lists.specs.declared.mark.Item.{Item}
use Rattle.event_lists.specs.declared.mark.Item.TheVariants.{Task}
use Rattle.event_lists.specs.declared.mark.Mark.{Mark}
use Rattle.event_lists.specs.declared.kind.Kind.{Kind}
use Rattle.event_lists.specs.declared.kind.Kind.TheVariants.{Sends as sends, Handlings as handlings, Submissions as submissions, Runs as runs}
use Rattle.event_lists.specs.declared.future.Bringer.{Bringer}
use Rattle.event_lists.specs.Events.{main_of, part, Begins, StandsOn, is_item, in_hand, takes, times_made}
use Rattle.event_lists.specs.Futures.{bringer, is_bringer, spawned_due, spawned_needs}
use Rattle.event_lists.specs.Counting.{MaySpawn, MaySubmit}
use Rattle.event_lists.specs.Fences.{is_receipt, readings, passes, IsIdleIn, InOrder}

-- a lane has seen a beginning of the whole list that has all of the lane's own events
pub record SeesItsOwn (seen log : List Mark) (l : LaneName) (mine : List Event) : Type 0 where
  pub begins : Begins seen log
  pub own : part l seen ≡ mine
  pub whole : part l log ≡ mine

-- a lane with this in hand may spawn, and this bringer is who spawns
abbrev pub SpawnsFor : LaneName → Option Item → Bringer → Type 0
SpawnsFor l h b = MaySpawn l h × (bringer l.rank h ≡ Some b)

-- whether this bringer spawned with this due, by the events of one lane of rank r
abbrev pub was_due_on_lane : ℕ → Bringer → Label → List Event → Bool
was_due_on_lane r b d [] = false
was_due_on_lane r b d (e ∷ es) = (is_bringer b (bringer r (in_hand es)) && is_due d (spawned_due e)) || was_due_on_lane r b d es

-- whether this bringer spawned with this need, by the events of one lane of rank r
abbrev pub was_needed_on_lane : ℕ → Bringer → Label → List Event → Bool
was_needed_on_lane r b d [] = false
was_needed_on_lane r b d (e ∷ es) = (is_bringer b (bringer r (in_hand es)) && list_any (λ m. same_label d m) (spawned_needs e)) || was_needed_on_lane r b d es

-- each label that a spawn of this bringer needs is the due of a spawn of it, by the events of one lane of rank r
abbrev pub NeedsAreDuesOnLane : ℕ → Bringer → List Event → Type 0
NeedsAreDuesOnLane r b mine = (d : Label) → was_needed_on_lane r b d mine ≡ true → was_due_on_lane r b d mine ≡ true

-- whether a receipt of this fence is among these events
abbrev pub has_receipt_on_lane : ℕ → List Event → Bool
has_receipt_on_lane f [] = false
has_receipt_on_lane f (e ∷ es) = is_receipt f e || has_receipt_on_lane f es

-- what an event asks of what its lane has in hand; and a task that is taken was submitted
abbrev pub HandAllows : List Mark → LaneName → List Event → Event → Type 0
HandAllows log l mine (Sent n to p) = MaySpawn l (in_hand mine)
HandAllows log l mine (Submitted n t) = MaySubmit l (in_hand mine)
HandAllows log l mine (TookTask r n) = 1 ≤ times_made (Task r n) log
HandAllows log l mine (Ran n r t) = in_hand mine ≡ Some (Task r t)
HandAllows log l mine (Enter f) = (l ≡ main_of l.rank) × (in_hand mine ≡ None)
HandAllows log l mine _ = Unit {0}

-- the event reads a count
abbrev pub is_reading : Event → Bool
is_reading (ReadHandled v f p) = true
is_reading (ReadRan v f p) = true
is_reading (ReadSubmitted v f p) = true
is_reading (ReadSent v f p) = true
is_reading _ = false

-- the event that reads the count of a kind, and finds v
abbrev pub reading_event : Kind → ℕ → ℕ → ℕ → Event
reading_event handlings v f p = ReadHandled v f p
reading_event runs v f p = ReadRan v f p
reading_event submissions v f p = ReadSubmitted v f p
reading_event sends v f p = ReadSent v f p

-- the next reading of a main is of this kind, for this pass of this fence: all that a reading asks but what it finds
abbrev pub IsNextReading : ℕ → List Mark → LaneName → List Event → Kind → ℕ → ℕ → Type 0
IsNextReading ranks log l mine k f p = IsIdleIn l mine f × (p ≡ suc (passes (readings mine))) × InOrder ranks log (readings mine) k f p

-- a message or task was taken on this lane
abbrev pub IsTakenOn : LaneName → Item → List Mark → Type 0
IsTakenOn l c log = (e : Event) × (takes e ≡ Some c) × StandsOn l e log

-- how often a message or task was taken
abbrev pub times_taken : Item → List Mark → ℕ
times_taken c [] = 0
times_taken c (x ∷ log) = (if is_item c (takes x.event) then 1 else 0) + times_taken c log

-- the lane of a hand of a rank: 0 is the main
abbrev pub hand_of : ℕ → ℕ → LaneName
hand_of r n = record { rank = r; bin = false; number = n }
