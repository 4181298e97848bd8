-- What a seat may owe: a message or task that was counted and not yet taken, or an effect that was drawn and not yet
-- carried out.
use Rattle.std.specs.Prelude.{◌≡◌, ◌≤◌, ℕ, Bool, false, List, Option, Some, None}
use Rattle.app_core.specs.declared.outline.Outline.{Outline}
use Rattle.event_lists.specs.declared.lane.LaneName.{LaneName}
use Rattle.event_lists.specs.declared.event.Event.{Event}
use Rattle.event_lists.specs.declared.event.Event.TheVariants.{Sent, TookMessage, TookTask, Handled, Submitted, Ran, Enter}
use Rattle.event_lists.specs.declared.mark.Item.{Item}
use Rattle.event_lists.specs.declared.mark.Item.TheVariants.{Message, Task}
use Rattle.event_lists.specs.declared.mark.EffectName.{EffectName}
use Rattle.event_lists.specs.declared.mark.Mark.{Mark}
use Rattle.event_lists.specs.declared.future.Future.{Future}
use Rattle.event_lists.specs.Events.{StandsOn, same_item, is_item, takes, is_taken, part, in_hand}
use Rattle.event_lists.specs.Futures.{needs_of, times_given, IsIn}
use Rattle.event_laws.specs.Follows.{is_effect, is_own, carried_out}
use Rattle.world_rule.specs.declared.view.Pending.{Pending}
use Rattle.world_rule.specs.declared.view.Pending.TheVariants.{Counted, Drawn}
use Rattle.world_rule.specs.declared.view.Load.{Load}
use Rattle.world_rule.specs.declared.view.Load.TheVariants.{OfMessage, OfTask, OfEffect}
use Rattle.world_rule.specs.declared.view.Owed.{Owed}

abbrev pub same_effect : EffectName → EffectName → Bool
same_effect f g = is_effect f.rank f.number f.index (Some g)

abbrev pub same_pending : Pending → Pending → Bool
same_pending (Counted c) (Counted d) = same_item c d
same_pending (Drawn f) (Drawn g) = same_effect f g
same_pending _ _ = false

-- a mark is what the pending message, task or effect waits for: its event takes the message or task in hand, or it
-- carries out the effect
abbrev pub settles : Pending → Mark → Bool
settles (Counted c) x = is_item c (takes x.event)
settles (Drawn f) x = is_effect f.rank f.number f.index x.effect

-- whether a message or task was taken, or an effect carried out
abbrev pub is_settled : Pending → List Mark → Bool
is_settled (Counted c) log = is_taken c log
is_settled (Drawn f) log = carried_out f.rank f.number f.index log

abbrev pub owed : Pending → ℕ → Load → Owed
owed c to w = record { pending = c; to = to; load = w }

-- what an event on this lane makes, which its seat then owes
abbrev pub made_by : LaneName → Event → Option Owed
made_by l (Sent n to p) = Some (owed (Counted (Message l.rank n)) to (OfMessage p))
made_by l (Submitted n t) = Some (owed (Counted (Task l.rank n)) l.rank (OfTask t))
made_by l _ = None

-- the message or task was sent or submitted, to this rank, with this load
abbrev pub Made : Owed → List Mark → Type 0
Made o log = (l : LaneName) × (e : Event) × (made_by l e ≡ Some o) × StandsOn l e log

-- where what a seat owes comes from: a message or task was made; a drawn effect is a put or an erase for a bin of its
-- task's rank, and some lane had the task in hand
abbrev pub IsFrom : Pending → Owed → List Mark → Type 0
IsFrom (Counted c) o log = Made o log
IsFrom (Drawn f) o log =
    (w : Outline) × (o.load ≡ OfEffect w) × (is_own w ≡ false) × (o.to ≡ f.rank) × ((l : LaneName) × (in_hand (part l log) ≡ Some (Task f.rank f.number)))

abbrev pub ComesFrom : Owed → List Mark → Type 0
ComesFrom o log = IsFrom o.pending o log

-- it is a message or a task
abbrev pub IsCounted : Pending → Type 0
IsCounted (Counted c) = Unit {0}
IsCounted (Drawn f) = ⊥

-- the message or task that is pending
abbrev pub item_in : Pending → Option Item
item_in (Counted c) = Some c
item_in (Drawn f) = None

-- the effect that is pending
abbrev pub effect_in : Pending → Option EffectName
effect_in (Counted c) = None
effect_in (Drawn f) = Some f

-- an event that stands for none
abbrev pub no_event : Event
no_event = Enter 0

-- the event that takes a pending message or task in hand
abbrev pub took : Pending → Event
took (Counted (Message r n)) = TookMessage r n
took (Counted (Task r n)) = TookTask r n
took (Drawn f) = no_event

-- the event with this number that ends what is in hand: a message is handled, or a task ran
abbrev pub ended : ℕ → Option Item → Event
ended n None = no_event
ended n (Some (Message r m)) = Handled n r m
ended n (Some (Task r t)) = Ran n r t

-- the needs of a pending task, found in what the one list tells, are known as given in the other
abbrev pub NeedsKnown : Pending → List Mark → List Mark → Type 0
NeedsKnown (Counted (Task r n)) told seen = (f : Future) → IsIn f (needs_of (Task r n) told) → 1 ≤ times_given f seen
NeedsKnown _ told seen = Unit {0}
