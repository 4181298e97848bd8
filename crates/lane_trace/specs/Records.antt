-- What a lane counts of its events, and keeps of them.
use Rattle.std.specs.Prelude.{ℕ, suc, ◌-◌, ◌^◌, Bool, true, false, if◌then◌else◌, ⊤, List, [], ◌∷◌, Option, Some, None}
use Rattle.event_lists.specs.declared.event.Event.{Event}
use Rattle.event_lists.specs.declared.mark.Item.{Item}
use Rattle.event_lists.specs.declared.mark.Item.TheVariants.{Message, Task}
use Rattle.event_lists.specs.declared.event.Event.TheVariants.{TookMessage, TookTask, Handled, Ran}
use Rattle.lane_trace.specs.Traces.{TraceData, IsWithin, room_of_any}

-- no lane has more events than these
abbrev pub event_limit : ℕ
event_limit = 2 ^ 48

-- whether a trace is kept; its events, the newest first, and none where there is no trace; how many events the lane made,
-- and how many more there is room for
pub record RecordData : Type 0 where
  pub kept : Bool
  pub events : List Event
  pub made : ℕ
  pub spare : ℕ

-- a record of no events, with room for none
abbrev pub new_record : Bool → RecordData
new_record kept = record { kept = kept; events = []; made = 0; spare = 0 }

-- the record after one more event
abbrev pub recorded : Event → RecordData → RecordData
recorded e d = record { kept = d.kept; events = if d.kept then e ∷ d.events else d.events; made = suc d.made; spare = d.spare - 1 }

-- the events of a trace, where there is one
abbrev pub is_kept : Option TraceData → Bool
is_kept None = false
is_kept (Some t) = true

abbrev pub kept_events : Option TraceData → List Event
kept_events None = []
kept_events (Some t) = t.events

-- a trace has room for so many events of any kind
abbrev pub FitsAny : ℕ → Option TraceData → Type 0
FitsAny n None = ⊤
FitsAny n (Some t) = IsWithin (room_of_any n) t.room

-- the event that takes a message or task in hand, and the one with this number that ends it
abbrev pub taking : Item → Event
taking (Message r n) = TookMessage r n
taking (Task r n) = TookTask r n

abbrev pub ending : ℕ → Item → Event
ending n (Message r m) = Handled n r m
ending n (Task r t) = Ran n r t
