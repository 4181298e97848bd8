-- What is asked of a lane's state, and of what was sent or submitted.
use Rattle.std.specs.Prelude.{◌≡◌, ℕ, ◌≤◌, true, List, Option, Some, None, slice_get}
use Rattle.app_core.specs.declared.label.Label.{Label}
use Rattle.event_lists.specs.declared.lane.LaneName.{LaneName}
use Rattle.event_lists.specs.declared.event.Parcel.{Parcel}
use Rattle.event_lists.specs.declared.event.Parcel.TheVariants.{Unit as Spawned, Give}
use Rattle.event_lists.specs.declared.future.Future.{Future}
use Rattle.event_lists.specs.declared.kind.Reading.{Reading}
use Rattle.event_lists.specs.declared.mark.Item.{Item}
use Rattle.event_lists.specs.declared.mark.Item.TheVariants.{Task}
use Rattle.event_lists.specs.declared.mark.Mark.{Mark}
use Rattle.event_lists.specs.Events.{part, in_hand}
use Rattle.event_lists.specs.Futures.{bringer, is_own, own_due, times_given, IsIn, futures_by}
use Rattle.event_lists.specs.declared.future.Bringer.{Bringer}
use Rattle.event_lists.specs.Dues.{DueIsFree, KeepsDue, NeedsAreFree}
use Rattle.event_lists.specs.Counting.{MaySpawn}
use Rattle.event_lists.specs.declared.event.TaskName.{TaskName}
use Rattle.app_core.specs.Needs.{AreDistinct}
use Rattle.event_rules.specs.declared.values.Load.{Load}
use Rattle.event_rules.specs.declared.values.Load.TheVariants as of
use Rattle.event_rules.specs.declared.values.LaneState.{LaneState}
use Rattle.event_rules.specs.declared.values.Recent.{Recent}

-- a message to this rank
abbrev pub GoesTo : ℕ → Load → Type 0
GoesTo rank (of.Message to p) = to ≡ rank
GoesTo rank (of.Task t) = ⊥

-- a message with this parcel
abbrev pub HasParcel : Parcel → Load → Type 0
HasParcel p (of.Message to q) = q ≡ p
HasParcel p (of.Task t) = ⊥

-- a task is in hand
abbrev pub HasTask : Option Item → Type 0
HasTask (Some (Task r n)) = Unit {0}
HasTask _ = ⊥

-- a task in hand keeps its due, which has this label
abbrev pub KeepsOwn : LaneState → Label → Type 0
KeepsOwn s d = HasTask s.hand × (is_own d s.own ≡ true) × (s.keeps ≡ true)

-- a message with this parcel may be sent: its due is free, or its value is of the due that the task in hand keeps
abbrev pub MayCarry : List Mark → LaneName → Parcel → Type 0
MayCarry log l (Spawned u d) = DueIsFree (own_due (in_hand (part l log)) log) (bringer l.rank (in_hand (part l log))) log (part l log) d
MayCarry log l (Give d) = KeepsDue (in_hand (part l log)) d log (part l log)

-- a task may be spawned: with a task in hand, or as a main that is in no fence, and its due and its needs are free
abbrev pub SpawnsFreely : List Mark → LaneName → LaneState → TaskName → Type 0
SpawnsFreely log l s t =
    MaySpawn l s.hand × (s.hand ≡ None → s.fence ≡ None) × DueIsFree s.own (bringer l.rank s.hand) log (part l log) t.due × AreDistinct t.needs × NeedsAreFree s.own (bringer l.rank s.hand) log t.needs

-- each future of this bringer with one of these labels was given
abbrev pub AreGiven : Option Bringer → List Mark → List Label → Type 0
AreGiven by log ds = (f : Future) → IsIn f (futures_by by ds) → 1 ≤ times_given f log

-- readings of which these are the last
pub record EndsWith (rs : List Reading) (recent : Recent) : Type 0 where
  pub first : recent.first ≡ slice_get rs 0
  pub second : recent.second ≡ slice_get rs 1
