-- Which futures an event is noted for, and what that changes of them.
use Rattle.std.specs.Prelude.{◌≡◌, ℕ, Bool, true, ◌&&◌, ◌||◌, List, Option}
use Rattle.std.specs.List.{list_any}
use Rattle.app_core.specs.declared.label.Label.{Label}
use Rattle.app_core.specs.Outlines.{same_label, is_due}
use Rattle.event_lists.specs.declared.event.Event.{Event}
use Rattle.event_lists.specs.declared.future.Bringer.{Bringer}
use Rattle.event_lists.specs.declared.future.Future.{Future}
use Rattle.event_lists.specs.Futures.{same_future, is_future, bringer, is_bringer, spawned_due, spawned_needs, gives}
use Rattle.event_rules.specs.declared.values.LaneState.{LaneState}
use Rattle.event_rules.specs.declared.values.Found.{Found}
use Rattle.event_tables.specs.declared.table.Table.{Table}
use Rattle.event_tables.specs.Tables.{value_at, has_place}

-- whether this future is that of the due with which this bringer spawns
abbrev pub is_due_of : Option Bringer → Option Label → Future → Bool
is_due_of by due f = is_bringer f.by by && is_due f.label due

-- whether this future is one of those that this bringer needs in a spawn
abbrev pub is_need_of : Option Bringer → List Label → Future → Bool
is_need_of by needs f = is_bringer f.by by && list_any (λ m. same_label f.label m) needs

-- what was found, and more
abbrev pub with_more : Found → Bool → Bool → Bool → Found
with_more s due needed given = record { due = due || s.due; needed = needed || s.needed; given = given || s.given }

-- the values of a table of futures after these are found to be dues, needs and given
abbrev pub Notes : (Future → Bool) → (Future → Bool) → (Future → Bool) → Table Future Found → Table Future Found → Type 0
Notes due needed given old new = (f : Future) → value_at same_future new f ≡ with_more (value_at same_future old f) (due f) (needed f) (given f)

-- there is room for each of these futures
abbrev pub HasRoom : Table Future Found → (Future → Bool) → Type 0
HasRoom t these = (f : Future) → these f ≡ true → has_place same_future t f ≡ true

-- there is room to note an event on a lane of this rank, which is in this state
pub record HasRoomFor (t : Table Future Found) (r : ℕ) (s : LaneState) (e : Event) : Type 0 where
  pub due : HasRoom t (is_due_of (bringer r s.hand) (spawned_due e))
  pub needs : HasRoom t (is_need_of (bringer r s.hand) (spawned_needs e))
  pub given : HasRoom t (λ f. is_future f (gives s.own e))
