use Rattle.std.proofs.Common.{◌≡◌, ◌≤◌, ◌+◌, ◌++◌, length, take, vec_len, vec_capacity}
use Rattle.lane_trace.proofs.stored_event.add_needs.Given as goal

abbrev pub invariant-loop-need : goal.invariant-loop-need
invariant-loop-need l = record {
  items : l.all.items ≡ l.initial.all.items ++ take l.need-index l.needs;
  len : vec_len l.all ≡ vec_len l.initial.all + l.need-index;
  capacity : vec_capacity l.all ≡ vec_capacity l.initial.all;
  room : vec_len l.initial.all + length l.needs ≤ vec_capacity l.initial.all;
}
