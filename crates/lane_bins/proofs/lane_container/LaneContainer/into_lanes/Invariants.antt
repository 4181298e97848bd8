use Rattle.std.proofs.Common.{◌≡◌, ◌≤◌, ◌+◌, true, map, All, length, vec_len, vec_capacity}
use Rattle.std.specs.Prelude.{IfSome}
use Rattle.std.specs.Vec.Iter.{into_iter_items, into_iter_len}
use Rattle.event_books.specs.Books.{lanes_from}
use Rattle.world_words.specs.Closing.{name_of, IsFree}
use Rattle.lane_bins.proofs.lane_container.LaneContainer.into_lanes.Given as goal

abbrev pub invariant-loop-bin : goal.invariant-loop-bin
invariant-loop-bin g l = record {
  len : vec_len l.lanes ≡ l.number;
  left : l.number + length (into_iter_items l.bin-iterator) ≡ 16;
  room : 16 ≤ vec_capacity l.lanes;
  iterator : into_iter_len l.bin-iterator ≡ length (into_iter_items l.bin-iterator);
  names : map name_of l.lanes.items ≡ lanes_from true l.rank 0 l.number;
  free : IfSome g.J.WordsNaming.words (λ w. All (IsFree w) l.lanes.items);
}
