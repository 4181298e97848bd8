-- What values show of a list of events: a lane's state, a message or task, and a future.
use Rattle.std.specs.Prelude.{◌≡◌, ◌↔◌, ℕ, ◌≤◌, true, if◌then◌else◌, List, [], ◌∷◌, Option, Some, None, slice_get}
use Rattle.event_lists.specs.declared.lane.LaneName.{LaneName}
use Rattle.event_lists.specs.declared.event.Event.{Event}
use Rattle.event_lists.specs.declared.event.Event.TheVariants.{Sent, Submitted}
use Rattle.event_lists.specs.declared.future.Bringer.{Bringer}
use Rattle.event_lists.specs.declared.future.Future.{Future}
use Rattle.event_lists.specs.declared.mark.Item.{Item}
use Rattle.event_lists.specs.declared.mark.Item.TheVariants.{Message, Task}
use Rattle.event_lists.specs.declared.mark.Mark.{Mark}
use Rattle.event_lists.specs.Events.{part, is_item, makes, in_hand, is_taken}
use Rattle.event_lists.specs.Futures.{bringer, due_of, own_due, was_due, was_needed, is_kept, is_fresh, times_given}
use Rattle.event_lists.specs.Fences.{fence_in, enters, readings, passes}
use Rattle.event_rules.specs.declared.values.Load.{Load}
use Rattle.event_rules.specs.declared.values.Load.TheVariants as of
use Rattle.event_rules.specs.declared.values.Made.{Made}
use Rattle.event_rules.specs.declared.values.Found.{Found}
use Rattle.event_rules.specs.declared.values.LaneState.{LaneState}

-- what an event sends or submits
abbrev pub load_made : Event → Option Load
load_made (Sent n to p) = Some (of.Message to p)
load_made (Submitted n t) = Some (of.Task t)
load_made _ = None

-- what was sent or submitted as this message or task
abbrev pub load_of : Item → List Mark → Option Load
load_of c [] = None
load_of c (x ∷ log) = if is_item c (makes x.lane.rank x.event) then load_made x.event else load_of c log

-- who spawned this message or task
abbrev pub spawner_of : Item → List Mark → Option Bringer
spawner_of c [] = None
spawner_of c (x ∷ log) = if is_item c (makes x.lane.rank x.event) then bringer x.lane.rank (in_hand (part x.lane log)) else spawner_of c log

-- the state of a lane
pub record ShowsLane (log : List Mark) (l : LaneName) (s : LaneState) : Type 0 where
  pub hand : s.hand ≡ in_hand (part l log)
  pub own : s.own ≡ own_due (in_hand (part l log)) log
  pub keeps : (r n : ℕ) (f : Future) → s.hand ≡ Some (Task r n) → s.own ≡ Some f → s.keeps ≡ is_kept f.label (part l log)
  pub fresh : (r m : ℕ) → s.hand ≡ Some (Message r m) → s.fresh ≡ is_fresh (part l log)
  pub fence : s.fence ≡ fence_in (part l log)
  pub entered : s.entered ≡ enters (part l log)
  pub passed : s.passes ≡ passes (readings (part l log))
  pub first : s.recent.first ≡ slice_get (readings (part l log)) 0
  pub second : s.recent.second ≡ slice_get (readings (part l log)) 1
  pub third : s.recent.third ≡ slice_get (readings (part l log)) 2

-- a message or task that was sent or submitted
pub record ShowsMade (log : List Mark) (c : Item) (m : Made) : Type 0 where
  pub load : load_of c log ≡ Some m.load
  pub by : m.by ≡ spawner_of c log
  pub due : m.due ≡ due_of c log
  pub taken : m.taken ≡ is_taken c log

-- the same, or that it wasn't
abbrev pub ShowsItem : List Mark → Item → Option Made → Type 0
ShowsItem log c None = load_of c log ≡ None
ShowsItem log c (Some m) = ShowsMade log c m

-- what was done with a future
pub record ShowsFuture (log : List Mark) (f : Future) (s : Found) : Type 0 where
  pub due : s.due ≡ was_due f.by f.label log
  pub needed : s.needed ≡ was_needed f.by f.label log
  pub given : (s.given ≡ true) ↔ (1 ≤ times_given f log)
