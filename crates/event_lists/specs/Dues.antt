-- The second part of what an event asks of the list before it: dues, needs, and futures that are given.
use Rattle.std.specs.Prelude.{◌≡◌, ◌⊎◌, ℕ, ◌≤◌, true, false, List, [], ◌∷◌, Option, Some, None}
use Rattle.app_core.specs.declared.label.Label.{Label}
use Rattle.app_core.specs.Needs.{AreDistinct}
use Rattle.event_lists.specs.declared.lane.LaneName.{LaneName}
use Rattle.event_lists.specs.declared.event.Event.{Event}
use Rattle.event_lists.specs.declared.event.Event.TheVariants.{Sent, TookTask, Handled, Submitted, Ran, Gave, Enter}
use Rattle.event_lists.specs.declared.event.Parcel.{Parcel}
use Rattle.event_lists.specs.declared.event.Parcel.TheVariants.{Unit as Spawned, Give}
use Rattle.event_lists.specs.declared.event.TaskName.{TaskName}
use Rattle.event_lists.specs.declared.mark.Item.{Item}
use Rattle.event_lists.specs.declared.mark.Item.TheVariants.{Message, Task}
use Rattle.event_lists.specs.declared.mark.Mark.{Mark}
use Rattle.event_lists.specs.Events.{in_hand, IsSent}
use Rattle.event_lists.specs.declared.future.Bringer.{Bringer}
use Rattle.event_lists.specs.declared.future.Bringer.TheVariants.{Task as task_of, Main as main_at}
use Rattle.event_lists.specs.declared.future.Future.{Future}
use Rattle.event_lists.specs.Futures.{bringer, is_own, own_due, needs_of, was_due, was_needed, is_kept, is_fresh, times_given, IsIn}

abbrev pub WasNoDue : Option Bringer → Label → List Mark → Type 0
WasNoDue None d log = ⊥
WasNoDue (Some b) d log = was_due b d log ≡ false

-- the due is absent; or is the own due of the task in hand, still kept; or has another label, with which this bringer
-- didn't spawn before
abbrev pub DueIsFree : Option Future → Option Bringer → List Mark → List Event → Option Label → Type 0
DueIsFree own b log mine None = Unit {0}
DueIsFree own b log mine (Some d) = ((is_own d own ≡ true) × (is_kept d mine ≡ true)) ⊎ ((is_own d own ≡ false) × WasNoDue b d log)

abbrev pub WasNotNeeded : Option Bringer → Label → List Mark → Type 0
WasNotNeeded None d log = ⊥
WasNotNeeded (Some b) d log = was_needed b d log ≡ false

-- none of these is the own due of the task in hand, or was a need of an earlier spawn of this bringer
abbrev pub NeedsAreFree : Option Future → Option Bringer → List Mark → List Label → Type 0
NeedsAreFree own b log [] = Unit {0}
NeedsAreFree own b log (d ∷ ds) = (is_own d own ≡ false) × WasNotNeeded b d log × NeedsAreFree own b log ds

-- a message in hand carries this
abbrev pub Carries : Option Item → Parcel → List Mark → Type 0
Carries (Some (Message r m)) p log = (to : ℕ) × IsSent r m to p log
Carries _ p log = ⊥

-- a task in hand keeps its due, which has this label
abbrev pub KeepsDue : Option Item → Label → List Mark → List Event → Type 0
KeepsDue (Some (Task r n)) d log mine = (is_own d (own_due (Some (Task r n)) log) ≡ true) × (is_kept d mine ≡ true)
KeepsDue _ d log mine = ⊥

-- a submission with a message in hand is of the unit and due that it carries, and the first since the message was taken;
-- with nothing or a task in hand it is a spawn
abbrev pub SubmitsFreely : Option Item → LaneName → List Mark → List Event → TaskName → Type 0
SubmitsFreely (Some (Message r m)) l log mine t = Carries (Some (Message r m)) (Spawned t.unit t.due) log × (is_fresh mine ≡ true) × (t.needs ≡ [])
SubmitsFreely h l log mine t =
    DueIsFree (own_due h log) (bringer l.rank h) log mine t.due × AreDistinct t.needs × NeedsAreFree (own_due h log) (bringer l.rank h) log t.needs

-- a task that has a due has passed it on
abbrev pub HasPassedOn : Option Future → List Event → Type 0
HasPassedOn None mine = Unit {0}
HasPassedOn (Some f) mine = is_kept f.label mine ≡ false

-- each label that a spawn of this bringer needs is the due of a spawn of it
abbrev pub NeedsAreDues : Bringer → List Mark → Type 0
NeedsAreDues b log = (d : Label) → was_needed b d log ≡ true → was_due b d log ≡ true

abbrev pub Dues : List Mark → LaneName → List Event → Event → Type 0
Dues log l mine (Sent n to (Spawned u d)) = DueIsFree (own_due (in_hand mine) log) (bringer l.rank (in_hand mine)) log mine d
Dues log l mine (Sent n to (Give d)) = KeepsDue (in_hand mine) d log mine
Dues log l mine (Submitted n t) = SubmitsFreely (in_hand mine) l log mine t
Dues log l mine (TookTask r n) = (f : Future) → IsIn f (needs_of (Task r n) log) → 1 ≤ times_given f log
Dues log l mine (Gave d) = (Carries (in_hand mine) (Give d) log × (is_fresh mine ≡ true)) ⊎ KeepsDue (in_hand mine) d log mine
Dues log l mine (Handled n r m) = is_fresh mine ≡ false
Dues log l mine (Ran n r t) = HasPassedOn (own_due (Some (Task r t)) log) mine × NeedsAreDues (task_of r t) log
Dues log l mine (Enter e) = NeedsAreDues (main_at l.rank) log
Dues log l mine _ = Unit {0}
