-- What is kept of the seats of lanes, carriers and tolds.
use Rattle.std.specs.Prelude.{◌≡◌, ℕ, true, false, ◌+◌, ◌*◌, ◌^◌, ◌≤◌, [], ◌∷◌, length, Option, Some, None}
use Rattle.atomic_table.specs.Seated.{TableId}
use Rattle.app_core.specs.declared.outline.Outline.{Outline}
use Rattle.event_lists.specs.declared.lane.LaneName.{LaneName}
use Rattle.event_lists.specs.declared.event.Parcel.TheVariants.{Give}
use Rattle.event_lists.specs.declared.mark.Item.{Item}
use Rattle.event_lists.specs.declared.mark.Item.TheVariants.{Message, Task}
use Rattle.event_lists.specs.Events.{part, in_hand}
use Rattle.lane_trace.specs.Records.{RecordData}
use Rattle.world_rule.specs.declared.view.Pending.TheVariants.{Counted}
use Rattle.world_rule.specs.declared.view.Load.TheVariants.{OfMessage}
use Rattle.world_rule.specs.declared.view.Owed.{Owed}
use Rattle.world_rule.specs.declared.view.Progress.{Progress}
use Rattle.world_rule.specs.Owing.{owed, Made, ComesFrom, item_in}
use Rattle.world_rule.specs.Views.{own_part, own_events, no_task, no_outline}
use Rattle.world_rule.specs.Steps.{M}

-- what is owed, how far the task is, and an outline, where there is one; else any
abbrev pub the_owed : Option Owed → Owed
the_owed None = owed (Counted (Message 0 0)) 0 (OfMessage (Give (record { command = 0; part = 0; place = 0 })))
the_owed (Some o) = o

abbrev pub the_task : Option Progress → Progress
the_task None = no_task
the_task (Some b) = b

abbrev pub the_outline : Option Outline → Outline
the_outline None = no_outline
the_outline (Some o) = o

abbrev pub owed_item : Option Owed → Option Item
owed_item None = None
owed_item (Some o) = item_in o.pending

-- the seat has this lane alone, with all of its events among those that it has seen. What is in hand and owed is known by
-- its name; what it owes was made, and the task that it began is in hand. The record d counts its events, and has them
-- where a trace is kept; there is room for no more than 2^48
pub record IsLaneSeat (table : TableId) (name : LaneName) (hand owes : Option Item) (d : RecordData) (me : M) : Type 0 where
  pub slots : me.1 ≡ []
  pub alone : me.0.parts ≡ own_part name (own_events me.0.parts) ∷ []
  pub room : length (own_events me.0.parts) + d.spare ≤ 2 ^ 48
  pub counted : d.made ≡ length (own_events me.0.parts)
  pub traced : d.kept ≡ true → d.events ≡ own_events me.0.parts
  pub words : 16 * name.rank + 48 ≤ table.words
  pub hand_is : in_hand (own_events me.0.parts) ≡ hand
  pub owing : owed_item me.0.owes ≡ owes
  pub made : (o : Owed) → me.0.owes ≡ Some o → Made o me.0.seen
  pub begun : (b : Progress) → me.0.progress ≡ Some b → in_hand (own_events me.0.parts) ≡ Some (Task b.rank b.number)
  pub own : part name me.0.seen ≡ own_events me.0.parts

-- the seat has no lane, and owes this
pub record IsPassive (owes : Option Owed) (me : M) : Type 0 where
  pub slots : me.1 ≡ []
  pub parts : me.0.parts ≡ []
  pub owing : me.0.owes ≡ owes
  pub progress : me.0.progress ≡ None
  pub stop : (me.0.set_stop ≡ false) × (me.0.saw_stop ≡ false)

-- the seat has no lane, and owes something, a message or task by its name, and it knows where this comes from
pub record IsCarrier (item : Option Item) (me : M) : Type 0 where
  pub passive : IsPassive (Some (the_owed me.0.owes)) me
  pub item_is : item_in (the_owed me.0.owes).pending ≡ item
  pub origin : ComesFrom (the_owed me.0.owes) me.0.seen

-- the seat owes nothing, and none of its lanes has a task that was begun
pub record IsRootSeat (me : M) : Type 0 where
  pub slots : me.1 ≡ []
  pub owing : me.0.owes ≡ None
  pub progress : me.0.progress ≡ None
