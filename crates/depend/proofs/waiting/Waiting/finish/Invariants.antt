use Rattle.std.proofs.Common.{◌≡◌, ◌≤◌, ◌+◌, ◌++◌, length, map, Some, vec_len}
use Rattle.std.specs.Prelude.{vec_capacity}
use Rattle.depend.specs.Slots.{IsReady}
use Rattle.depend.proofs.waiting.Waiting.finish.Given as goal

abbrev pub invariant-loop-slot : goal.invariant-loop-slot
invariant-loop-slot g l = record {
  so_far : map Some l.values.items ≡ l.yielded;
  left : l.yielded ++ l.slot-iterator.rest.items ≡ l.fn.self;
  filled : IsReady l.slot-iterator.rest.items;
  room : vec_len l.values + length l.slot-iterator.rest.items ≤ vec_capacity l.values;
}
