use Rattle.std.proofs.Common.{◌≡◌, ◌*◌, ◌≤◌, length, All}
use Rattle.std.specs.Vec.Iter.{into_iter_items, into_iter_len}
use Rattle.words_tests.specs.Turns.{IsInside, BringsUnit}
use Rattle.words_bench.specs.Many.{unit}
use Rattle.words_bench.proofs.many.serve_all.Given as goal

abbrev pub invariant-loop-carrier : goal.invariant-loop-carrier
invariant-loop-carrier g l = record {
  inside : IsInside l.words 1 1 l.lane;
  name : l.lane.name ≡ l.initial.lane.name;
  room : 3 * length (into_iter_items l.carrier-iterator) ≤ l.lane.spare;
  brings : All (BringsUnit l.words l.lane.name.rank unit) (into_iter_items l.carrier-iterator);
  len : into_iter_len l.carrier-iterator ≡ length (into_iter_items l.carrier-iterator);
}
