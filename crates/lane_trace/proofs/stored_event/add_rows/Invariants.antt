use Rattle.std.proofs.Common.{◌≡◌, ◌≤◌, ◌+◌, ◌++◌, length, take, vec_len, vec_capacity}
use Rattle.lane_trace.proofs.stored_event.add_rows.Given as goal

abbrev pub invariant-loop-row : goal.invariant-loop-row
invariant-loop-row l = record {
  items : l.all.items ≡ l.initial.all.items ++ take l.row-index l.rows;
  len : vec_len l.all ≡ vec_len l.initial.all + l.row-index;
  capacity : vec_capacity l.all ≡ vec_capacity l.initial.all;
  room : vec_len l.initial.all + length l.rows ≤ vec_capacity l.initial.all;
}
