-- What a trace is: the events of a lane, and the room that is left for more.
use Rattle.std.specs.Prelude.{ℕ, ◌+◌, ◌-◌, ◌*◌, ◌≤◌, ⊤, List, length, max}
use Rattle.app_core.specs.Needs.{max_needs}
use Rattle.event_lists.specs.declared.event.Event.{Event}
use Rattle.event_lists.specs.declared.event.Event.TheVariants.{Submitted, Receipt as Receives}
use Rattle.event_lists.specs.Rows.{max_ranks}
use Rattle.lane_trace.specs.declared.room.Room.{Room}

-- the events of a lane, the newest first, and the room that is left
pub record TraceData : Type 0 where
  pub events : List Event
  pub room : Room

-- how many needs an event has: those of a task
abbrev pub need_count : Event → ℕ
need_count (Submitted n t) = length t.needs
need_count _ = 0

-- how many rows: those of a receipt
abbrev pub row_count : Event → ℕ
row_count (Receives r) = length r.rows
row_count _ = 0

-- the room that an event takes
abbrev pub room_of : Event → Room
room_of e = record { events = 1; needs = need_count e; rows = row_count e }

-- the room that is left after an event
abbrev pub room_after : Event → Room → Room
room_after e room = record { events = room.events - 1; needs = room.needs - need_count e; rows = room.rows - row_count e }

-- the first room is there, where the second is
abbrev pub IsWithin : Room → Room → Type 0
IsWithin asked room = (asked.events ≤ room.events) × (asked.needs ≤ room.needs) × (asked.rows ≤ room.rows)

-- there is room for an event
abbrev pub HasRoomFor : Event → Room → Type 0
HasRoomFor e room = IsWithin (room_of e) room

-- the smallest room that both are in
abbrev pub joined_room : Room → Room → Room
joined_room a b = record { events = max a.events b.events; needs = max a.needs b.needs; rows = max a.rows b.rows }

abbrev pub no_room : Room
no_room = record { events = 0; needs = 0; rows = 0 }

-- room for so many events of any kind: a task has at most 16 needs, and a receipt at most 16 rows
abbrev pub room_of_any : ℕ → Room
room_of_any n = record { events = n; needs = 16 * n; rows = 16 * n }

abbrev pub IsShort : Event → Type 0
IsShort (Submitted n t) = length t.needs ≤ max_needs
IsShort (Receives r) = length r.rows ≤ max_ranks
IsShort _ = ⊤

-- where there is room for one more event than n of any kind, there is room for each, and then for n
abbrev pub AnyEventFits : Type 0
AnyEventFits = (n : ℕ) (room : Room) (e : Event) → IsWithin (room_of_any (n + 1)) room → IsShort e → HasRoomFor e room × IsWithin (room_of_any n) (room_after e room)
