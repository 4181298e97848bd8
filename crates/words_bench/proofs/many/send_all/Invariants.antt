use Rattle.std.proofs.Common.{◌≡◌, ◌+◌, ◌≤◌, vec_len, vec_capacity}
use Rattle.event_laws.specs.Follows.{deeds}
use Rattle.words_tests.specs.Turns.{IsOutside}
use Rattle.words_bench.specs.Many.{AreMessages}
use Rattle.words_bench.proofs.many.send_all.Given as goal

abbrev pub invariant-loop-done : goal.invariant-loop-done
invariant-loop-done g l = record {
  outside : IsOutside l.words 0 l.lane;
  did : deeds l.lane.mine ≡ l.done + deeds l.initial.lane.mine;
  name : l.lane.name ≡ l.initial.lane.name;
  room : l.initial.lane.spare ≤ l.lane.spare + l.done;
  len : vec_len l.carriers ≡ l.done;
  capacity : l.count ≤ vec_capacity l.carriers;
  brings : AreMessages l.words l.to l.done l.carriers.items;
}
