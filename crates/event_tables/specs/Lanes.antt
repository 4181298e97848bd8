-- What one more event on a lane changes of its state.
use Rattle.std.specs.Prelude.{◌≡◌, Bool, true, false, not, ◌&&◌, List, Option, Some, None, slice_get}
use Rattle.event_lists.specs.declared.event.Event.{Event}
use Rattle.event_lists.specs.declared.event.Event.TheVariants.{TookMessage, TookTask, Handled, Submitted, Ran, Gave}
use Rattle.event_lists.specs.declared.future.Future.{Future}
use Rattle.event_lists.specs.declared.kind.Reading.{Reading}
use Rattle.event_lists.specs.declared.mark.Item.{Item}
use Rattle.event_lists.specs.declared.mark.Mark.{Mark}
use Rattle.event_lists.specs.Events.{takes}
use Rattle.event_lists.specs.Futures.{due_of, passes_on}
use Rattle.event_rules.specs.declared.values.Recent.{Recent}

-- the due of what is in hand after an event; due is that of what the event takes
abbrev pub own_after : Event → Option Future → Option Future → Option Future
own_after (TookMessage r n) own due = due
own_after (TookTask r n) own due = due
own_after (Handled n r m) own due = None
own_after (Ran n r t) own due = None
own_after _ own due = own

-- whether an event gives, sends or spawns on the due of what is in hand
abbrev pub passes_own : Option Future → Event → Bool
passes_own None e = false
passes_own (Some f) e = passes_on f.label e

-- whether a task in hand has not passed its due on after an event
abbrev pub keeps_after : Event → Option Future → Bool → Bool
keeps_after (TookTask r n) own keeps = true
keeps_after e own keeps = not (passes_own own e) && keeps

-- whether nothing was submitted or given for a message in hand after an event
abbrev pub fresh_after : Event → Bool → Bool
fresh_after (TookMessage r n) fresh = true
fresh_after (Submitted n t) fresh = false
fresh_after (Gave f) fresh = false
fresh_after _ fresh = fresh

-- the last three of these readings
pub record AreLast (rs : List Reading) (recent : Recent) : Type 0 where
  pub first : recent.first ≡ slice_get rs 0
  pub second : recent.second ≡ slice_get rs 1
  pub third : recent.third ≡ slice_get rs 2

-- this is the due of the message or task that an event takes
abbrev pub IsDueTaken : Event → Option Future → List Mark → Type 0
IsDueTaken e due log = (c : Item) → takes e ≡ Some c → due ≡ due_of c log
