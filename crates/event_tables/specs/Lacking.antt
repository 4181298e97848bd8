-- How many labels are needed that aren't dues.
use Rattle.std.specs.Prelude.{◌≡◌, ℕ, ◌*◌, ◌≤◌, Bool, true, false, not, ◌&&◌, ◌||◌, List, length, Option, Some, None, count_by}
use Rattle.app_core.specs.declared.label.Label.{Label}
use Rattle.app_core.specs.Outlines.{is_due}
use Rattle.event_lists.specs.declared.event.Event.{Event}
use Rattle.event_lists.specs.declared.future.Bringer.{Bringer}
use Rattle.event_lists.specs.declared.future.Future.{Future}
use Rattle.event_lists.specs.declared.mark.Mark.{Mark}
use Rattle.event_lists.specs.Futures.{same_bringer, same_future}
use Rattle.event_rules.specs.declared.values.LaneState.{LaneState}
use Rattle.event_rules.specs.declared.values.Found.{Found}
use Rattle.event_tables.specs.declared.table.Table.{Table}
use Rattle.event_tables.specs.Tables.{value_at, has_place}
use Rattle.event_tables.specs.Spawns.{spawner}
use Rattle.event_tables.specs.Contents.{KeepsLacking}

-- the table keeps the numbers of lacking dues, none of which is above sixteen for each event
pub record KeepsLacks (log : List Mark) (t : Table Bringer ℕ) : Type 0 where
  pub counts : KeepsLacking log t
  pub within : (b : Bringer) → value_at same_bringer t b ≤ 16 * length log

-- what was found of the future of this bringer with this label
abbrev pub found_of : Table Future Found → Bringer → Label → Found
found_of t b d = value_at same_future t (record { by = b; label = d })

-- whether this due was needed and wasn't a due before
abbrev pub meets : Table Future Found → Bringer → Option Label → Bool
meets t b None = false
meets t b (Some d) = (found_of t b d).needed && not (found_of t b d).due

-- whether this label is neither this due nor a due before
abbrev pub is_lacked : Table Future Found → Bringer → Option Label → Label → Bool
is_lacked t b due d = not (is_due d due || (found_of t b d).due)

-- how many of these needs aren't met
abbrev pub lacked : Table Future Found → Bringer → Option Label → List Label → ℕ
lacked t b due needs = count_by (is_lacked t b due) needs

-- there is room for who spawns with an event on a lane of this rank in this state
abbrev pub HasSpawner : Table Bringer ℕ → ℕ → LaneState → Event → Type 0
HasSpawner t r s e = (b : Bringer) → spawner r s.hand e ≡ Some b → has_place same_bringer t b ≡ true
