use Rattle.std.proofs.Common.{◌≡◌, ◌≤◌, length, map, take, vec_len, vec_capacity}
use Rattle.lane_trace.specs.StoredEvents.{stored_event}
use Rattle.lane_trace.proofs.trace.LaneTrace.to_events.Given as goal

abbrev pub invariant-loop-stored : goal.invariant-loop-stored
invariant-loop-stored l = record {
  items : l.events.items ≡ map (stored_event (record { units = l.self-inside.units.items; needs = l.self-inside.needs.items; rows = l.self-inside.rows.items })) (take l.stored-index l.stored-items);
  len : vec_len l.events ≡ l.stored-index;
  room : length l.stored-items ≤ vec_capacity l.events;
}
