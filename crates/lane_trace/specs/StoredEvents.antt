-- What an event stands for that is stored beside a list of units, a list of needs and a list of rows.
use Rattle.std.specs.Prelude.{ℕ, ◌+◌, ◌<◌, ◌≤◌, List, map, reverse, take, drop, get_or, length, None, ⊤}
use Rattle.std.specs.List.{AllByRecursion}
use Rattle.app_core.specs.declared.label.Label.{Label}
use Rattle.app_core.specs.Needs.{nothing, max_needs, AreDistinct}
use Rattle.event_lists.specs.declared.event.Event.{Event}
use Rattle.event_lists.specs.declared.event.Event.TheVariants as full
use Rattle.event_lists.specs.declared.event.Parcel.{Parcel}
use Rattle.event_lists.specs.declared.event.Parcel.TheVariants.{Unit as Spawned, Give}
use Rattle.event_lists.specs.declared.event.TaskName.{TaskName}
use Rattle.event_lists.specs.declared.receipt.Row.{Row}
use Rattle.event_lists.specs.Rows.{max_ranks}
use Rattle.lane_trace.specs.declared.stored_event.UnitName.{UnitName}
use Rattle.lane_trace.specs.declared.stored_event.StoredEvent.{StoredEvent}
use Rattle.lane_trace.specs.declared.stored_event.StoredEvent.TheVariants.{SentUnit, SentGive, TookMessage, TookTask, Handled, Submitted, Ran, Gave, Put, Erased, ReadHandled, ReadRan, ReadSubmitted, ReadSent, Enter, Leave, Receipt}

abbrev pub no_unit : UnitName
no_unit = record { unit = nothing; due = None }

abbrev pub unit_at : List UnitName → ℕ → UnitName
unit_at units i = get_or units i no_unit

-- the parcel with this unit
abbrev pub parcel_of : UnitName → Parcel
parcel_of u = Spawned u.unit u.due

-- so many needs from there on
abbrev pub needs_at : List Label → ℕ → ℕ → List Label
needs_at needs i count = take count (drop i needs)

-- the task with this unit and these needs
abbrev pub task_of : UnitName → List Label → TaskName
task_of u needs = record { unit = u.unit; needs = needs; due = u.due }

-- so many rows from there on
abbrev pub rows_at : List Row → ℕ → ℕ → List Row
rows_at rows i count = take count (drop i rows)

-- what is stored beside the events
pub record Beside : Type 0 where
  pub units : List UnitName
  pub needs : List Label
  pub rows : List Row

-- the event that is stored
abbrev pub stored_event : Beside → StoredEvent → Event
stored_event b (SentUnit n i to) = full.Sent n to (parcel_of (unit_at b.units i))
stored_event b (SentGive n f to) = full.Sent n to (Give f)
stored_event b (TookMessage r n) = full.TookMessage r n
stored_event b (TookTask r n) = full.TookTask r n
stored_event b (Handled n r m) = full.Handled n r m
stored_event b (Submitted n i first count) = full.Submitted n (task_of (unit_at b.units i) (needs_at b.needs first count))
stored_event b (Ran n r t) = full.Ran n r t
stored_event b (Gave f) = full.Gave f
stored_event b (Put name) = full.Put name
stored_event b (Erased name) = full.Erased name
stored_event b (ReadHandled v f p) = full.ReadHandled v f p
stored_event b (ReadRan v f p) = full.ReadRan v f p
stored_event b (ReadSubmitted v f p) = full.ReadSubmitted v f p
stored_event b (ReadSent v f p) = full.ReadSent v f p
stored_event b (Enter f) = full.Enter f
stored_event b (Leave f) = full.Leave f
stored_event b (Receipt p first f count) = full.Receipt (record { fence = f; pass = p; rows = rows_at b.rows first count })

-- its unit, needs and rows are in the lists, and its needs are needs of a task
abbrev pub IsStored : Beside → StoredEvent → Type 0
IsStored b (SentUnit n i to) = i < length b.units
IsStored b (Submitted n i first count) =
    (i < length b.units) × (first + count ≤ length b.needs) × (count ≤ max_needs) × AreDistinct (needs_at b.needs first count)
IsStored b (Receipt p first f count) = (first + count ≤ length b.rows) × (count ≤ max_ranks)
IsStored b _ = ⊤

-- the list that is stored, the newest first
abbrev pub stored_events : Beside → List StoredEvent → List Event
stored_events b es = reverse (map (stored_event b) es)

abbrev pub AreStored : Beside → List StoredEvent → Type 0
AreStored b es = AllByRecursion (IsStored b) es
