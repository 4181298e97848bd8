-- What lasts as a legal list grows, and what a lane's own part of it decides.
use Rattle.std.specs.Prelude.{◌≡◌, ◌↔◌, if◌then◌else◌, ℕ, suc, ◌*◌, ◌<◌, ◌≤◌, true, false, List, ◌∷◌, Some, length}
use Rattle.app_core.specs.declared.label.Label.{Label}
use Rattle.event_lists.specs.declared.lane.LaneName.{LaneName}
use Rattle.event_lists.specs.declared.event.Event.{Event}
use Rattle.event_lists.specs.declared.event.Event.TheVariants.{Receipt as Receives}
use Rattle.event_lists.specs.declared.event.Parcel.{Parcel}
use Rattle.event_lists.specs.declared.event.TaskName.{TaskName}
use Rattle.event_lists.specs.declared.receipt.Row.{Row}
use Rattle.event_lists.specs.declared.receipt.Receipt.{Receipt}
use Rattle.event_lists.specs.declared.mark.Item.{Item}
use Rattle.event_lists.specs.declared.mark.Mark.{Mark}
use Rattle.event_lists.specs.declared.kind.Kind.{Kind}
use Rattle.event_lists.specs.declared.future.Bringer.{Bringer}
use Rattle.event_lists.specs.declared.future.Future.{Future}
use Rattle.event_lists.specs.Events.{main_of, part, Begins, StandsOn, number, count, makes, takes, times_made, is_taken, in_hand, IsSent, IsSubmitted}
use Rattle.event_lists.specs.Futures.{bringer, due_of, needs_of, was_due, was_needed, times_given}
use Rattle.event_lists.specs.Counting.{Counting}
use Rattle.event_lists.specs.Dues.{Dues, NeedsAreDues}
use Rattle.event_lists.specs.Fences.{Fences, row_of, IsComplete, has_receipt, sum_ranks, total_sent, total_handled}
use Rattle.event_lists.specs.Legal.{Legal}
use Rattle.event_lists.specs.OwnEvents.{SeesItsOwn, SpawnsFor, was_due_on_lane, was_needed_on_lane, NeedsAreDuesOnLane, has_receipt_on_lane, HandAllows, is_reading, reading_event, IsNextReading, IsTakenOn, times_taken, hand_of}

-- made and taken once

abbrev pub ItemsAreMadeOnce : Type 0
ItemsAreMadeOnce = (ranks workers : ℕ) (log : List Mark) → Legal ranks workers log → (c : Item) → times_made c log ≤ 1

-- what an event makes was neither made nor taken before
abbrev pub WhatIsMadeIsNew : Type 0
WhatIsMadeIsNew =
    (ranks workers : ℕ) (log : List Mark) (x : Mark) → Legal ranks workers (x ∷ log) → (c : Item) → makes x.lane.rank x.event ≡ Some c → (times_made c log ≡ 0) × (is_taken c log ≡ false)

-- what an event may take was made, and not taken
abbrev pub WhatIsTakenWaits : Type 0
WhatIsTakenWaits =
    (ranks : ℕ) (log : List Mark) (l : LaneName) (mine : List Event) (e : Event) → Counting ranks log l mine e → (c : Item) → takes e ≡ Some c → (1 ≤ times_made c log) × (is_taken c log ≡ false)

-- what a lane has in hand was made and taken, on this lane
abbrev pub HandsAreTaken : Type 0
HandsAreTaken =
    (ranks workers : ℕ) (log : List Mark) → Legal ranks workers log → (l : LaneName) (c : Item) → in_hand (part l log) ≡ Some c → (1 ≤ times_made c log) × (is_taken c log ≡ true) × IsTakenOn l c log

-- a message or task was taken once, or not at all
abbrev pub ItemsAreTakenOnce : Type 0
ItemsAreTakenOnce = (ranks workers : ℕ) (log : List Mark) → Legal ranks workers log → (c : Item) → times_taken c log ≡ (if is_taken c log then 1 else 0)

-- what was taken was taken on a lane
abbrev pub TakenItemsHaveTakers : Type 0
TakenItemsHaveTakers = (log : List Mark) (c : Item) → is_taken c log ≡ true → (l : LaneName) × IsTakenOn l c log

-- lanes that took one item are one
abbrev pub TakersAreOne : Type 0
TakersAreOne = (ranks workers : ℕ) (log : List Mark) → Legal ranks workers log → (l m : LaneName) (c : Item) → IsTakenOn l c log → IsTakenOn m c log → l ≡ m

-- numbers and counts

-- a counted event has a number below the count of its kind
abbrev pub NumbersAreBelowCounts : Type 0
NumbersAreBelowCounts =
    (ranks workers : ℕ) (log : List Mark) → Legal ranks workers log → (k : Kind) (n : ℕ) (l : LaneName) (e : Event) → number k e ≡ Some n → StandsOn l e log → n < count k l.rank log

-- counted events of one rank with one kind and number are one event, on one lane
abbrev pub NumbersNameEvents : Type 0
NumbersNameEvents =
    (ranks workers : ℕ) (log : List Mark) → Legal ranks workers log → (k : Kind) (n : ℕ) (l m : LaneName) (d e : Event) → number k d ≡ Some n → number k e ≡ Some n → l.rank ≡ m.rank
    → StandsOn l d log → StandsOn m e log → (l ≡ m) × (d ≡ e)

-- a count is at most the sum of the lengths of the lanes of the rank's hands
abbrev pub CountsAreBelowLengths : Type 0
CountsAreBelowLengths =
    (ranks workers : ℕ) (log : List Mark) → Legal ranks workers log → (k : Kind) (r : ℕ) → count k r log ≤ sum_ranks (λ n. length (part (hand_of r n) log)) (suc workers)

-- so where no lane is longer than m, it is at most m for each hand
abbrev pub CountsAreBounded : Type 0
CountsAreBounded =
    (ranks workers m : ℕ) (log : List Mark) → Legal ranks workers log → ((l : LaneName) → length (part l log) ≤ m) → (k : Kind) (r : ℕ) → count k r log ≤ suc workers * m

-- what is in a beginning of a list is in the list

abbrev pub EventsLast : Type 0
EventsLast = (old log : List Mark) → Begins old log → (l : LaneName) (e : Event) → StandsOn l e old → StandsOn l e log

abbrev pub MessagesLast : Type 0
MessagesLast = (old log : List Mark) → Begins old log → (r n to : ℕ) (p : Parcel) → IsSent r n to p old → IsSent r n to p log

abbrev pub SubmissionsLast : Type 0
SubmissionsLast = (old log : List Mark) → Begins old log → (r n : ℕ) (t : TaskName) → IsSubmitted r n t old → IsSubmitted r n t log

abbrev pub TakesLast : Type 0
TakesLast = (old log : List Mark) → Begins old log → (c : Item) → is_taken c old ≡ true → is_taken c log ≡ true

abbrev pub GivesLast : Type 0
GivesLast = (old log : List Mark) → Begins old log → (f : Future) → times_given f old ≤ times_given f log

abbrev pub CountsLast : Type 0
CountsLast = (old log : List Mark) → Begins old log → (k : Kind) (r : ℕ) → count k r old ≤ count k r log

abbrev pub ReceiptsLast : Type 0
ReceiptsLast = (old log : List Mark) → Begins old log → (f : ℕ) → has_receipt f old ≡ true → has_receipt f log ≡ true

-- what was made has the due and the needs that it had then
abbrev pub DuesOfItemsLast : Type 0
DuesOfItemsLast = (ranks workers : ℕ) (old log : List Mark) → Legal ranks workers log → Begins old log → (c : Item) → 1 ≤ times_made c old → due_of c log ≡ due_of c old

abbrev pub NeedsOfItemsLast : Type 0
NeedsOfItemsLast = (ranks workers : ℕ) (old log : List Mark) → Legal ranks workers log → Begins old log → (c : Item) → 1 ≤ times_made c old → needs_of c log ≡ needs_of c old

-- a pass that a rank completed keeps its row
abbrev pub RowsLast : Type 0
RowsLast =
    (ranks workers : ℕ) (old log : List Mark) → Legal ranks workers log → Begins old log → (q f p : ℕ) (row : Row) → row_of f p (part (main_of q) old) ≡ Some row → row_of f p (part (main_of q) log) ≡ Some row

-- a pass that is complete at every rank stays so
abbrev pub PassesLast : Type 0
PassesLast = (ranks workers : ℕ) (old log : List Mark) → Legal ranks workers log → Begins old log → (f p : ℕ) → IsComplete ranks f p old → IsComplete ranks f p log

-- and so do its two sums
abbrev pub SentSumsLast : Type 0
SentSumsLast = (ranks workers : ℕ) (old log : List Mark) → Legal ranks workers log → Begins old log → (f p : ℕ) → IsComplete ranks f p old → total_sent ranks f p log ≡ total_sent ranks f p old

abbrev pub HandledSumsLast : Type 0
HandledSumsLast =
    (ranks workers : ℕ) (old log : List Mark) → Legal ranks workers log → Begins old log → (f p : ℕ) → IsComplete ranks f p old → total_handled ranks f p log ≡ total_handled ranks f p old

-- spawns and receipts are on one lane

-- the spawns of the task in hand, or of a main with nothing in hand, are on its lane, at each beginning of the list
abbrev pub DuesAreOwn : Type 0
DuesAreOwn =
    (ranks workers : ℕ) (log : List Mark) → Legal ranks workers log → (l : LaneName) (b : Bringer) → SpawnsFor l (in_hand (part l log)) b
    → (d : Label) (old : List Mark) → Begins old log → was_due b d old ≡ was_due_on_lane l.rank b d (part l old)

abbrev pub NeedsAreOwn : Type 0
NeedsAreOwn =
    (ranks workers : ℕ) (log : List Mark) → Legal ranks workers log → (l : LaneName) (b : Bringer) → SpawnsFor l (in_hand (part l log)) b
    → (d : Label) (old : List Mark) → Begins old log → was_needed b d old ≡ was_needed_on_lane l.rank b d (part l old)

-- so the lane's own events decide whether the bringer's needs are its dues
abbrev pub NeedsAndDuesAreOwn : Type 0
NeedsAndDuesAreOwn =
    (ranks workers : ℕ) (log : List Mark) → Legal ranks workers log → (l : LaneName) (b : Bringer) → SpawnsFor l (in_hand (part l log)) b
    → NeedsAreDuesOnLane l.rank b (part l log) ↔ NeedsAreDues b log

-- a receipt is on the lane of rank 0's main
abbrev pub ReceiptsAreOwn : Type 0
ReceiptsAreOwn = (ranks workers : ℕ) (log : List Mark) → Legal ranks workers log → (l : LaneName) (r : Receipt) → StandsOn l (Receives r) log → l ≡ main_of 0

-- so this lane's own events decide whether a fence has one
abbrev pub ReceiptsAreFound : Type 0
ReceiptsAreFound = (ranks workers : ℕ) (log : List Mark) → Legal ranks workers log → (f : ℕ) → has_receipt f log ≡ has_receipt_on_lane f (part (main_of 0) log)

-- when a fence gets its receipt, the fences below it have theirs, and no others
abbrev pub ReceiptsAreInOrder : Type 0
ReceiptsAreInOrder =
    (ranks workers : ℕ) (log : List Mark) (x : Mark) → Legal ranks workers (x ∷ log) → (r : Receipt) → x.event ≡ Receives r → (f : ℕ) → (has_receipt f log ≡ true) ↔ ((1 ≤ f) × (f < r.fence))

-- receipts of one fence are one
abbrev pub ReceiptsAreOne : Type 0
ReceiptsAreOne = (ranks workers : ℕ) (log : List Mark) → Legal ranks workers log → (l m : LaneName) (r s : Receipt) → r.fence ≡ s.fence → StandsOn l (Receives r) log → StandsOn m (Receives s) log → r ≡ s

-- what an event asks holds of the whole list where it holds of what its lane has seen

abbrev pub DuesLast : Type 0
DuesLast =
    (ranks workers : ℕ) (seen log : List Mark) → Legal ranks workers log → (l : LaneName) (mine : List Event) → SeesItsOwn seen log l mine
    → (e : Event) → HandAllows seen l mine e → Dues seen l mine e → Dues log l mine e

abbrev pub FencesLast : Type 0
FencesLast =
    (ranks workers : ℕ) (seen log : List Mark) → Legal ranks workers log → (l : LaneName) (mine : List Event) → SeesItsOwn seen log l mine
    → (e : Event) → is_reading e ≡ false → Fences ranks seen l mine e → Fences ranks log l mine e

-- a reading finds the count in the whole list
abbrev pub ReadingsLast : Type 0
ReadingsLast =
    (ranks workers : ℕ) (seen log : List Mark) → Legal ranks workers log → (l : LaneName) (mine : List Event) → SeesItsOwn seen log l mine
    → (k : Kind) (f p : ℕ) → IsNextReading ranks seen l mine k f p → Fences ranks log l mine (reading_event k (count k l.rank log) f p)

-- and an event that came has met what it asks of its lane alone

-- a lane has seen its own events in the list itself
abbrev pub EachSeesItsOwn : Type 0
EachSeesItsOwn = (log : List Mark) (l : LaneName) → SeesItsOwn log log l (part l log)

abbrev pub HandsAllow : Type 0
HandsAllow = (ranks workers : ℕ) (log : List Mark) (x : Mark) → Legal ranks workers (x ∷ log) → HandAllows log x.lane (part x.lane log) x.event

-- who makes a message or task spawns, but for a message in hand
abbrev pub MakersSpawn : Type 0
MakersSpawn =
    (ranks workers : ℕ) (log : List Mark) (x : Mark) → Legal ranks workers (x ∷ log) → (c : Item) (b : Bringer) → makes x.lane.rank x.event ≡ Some c
    → bringer x.lane.rank (in_hand (part x.lane log)) ≡ Some b → SpawnsFor x.lane (in_hand (part x.lane log)) b

abbrev pub ReadingsAreNext : Type 0
ReadingsAreNext =
    (ranks workers : ℕ) (log : List Mark) (x : Mark) → Legal ranks workers (x ∷ log) → (k : Kind) (v f p : ℕ) → x.event ≡ reading_event k v f p → IsNextReading ranks log x.lane (part x.lane log) k f p

abbrev pub ReadingsAreEvents : Type 0
ReadingsAreEvents = (e : Event) → (is_reading e ≡ true) ↔ ((k : Kind) × (v : ℕ) × (f : ℕ) × (p : ℕ) × (e ≡ reading_event k v f p))
