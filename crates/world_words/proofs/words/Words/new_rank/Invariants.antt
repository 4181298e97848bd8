use Rattle.std.proofs.Common.{◌≡◌, ℕ, ◌<◌, ◌≤◌, map, vec_len, vec_capacity, Contains, []}
use Rattle.event_lists.specs.declared.lane.LaneName.{LaneName}
use Rattle.event_books.specs.Books.{lanes_from}
use Rattle.world_rule.specs.Views.{empty_part}
use Rattle.world_words.specs.Closing.{new_lane}
use Rattle.world_words.proofs.words.Words.new_rank.Given as goal

abbrev pub invariant-loop-number : goal.invariant-loop-number
invariant-loop-number g l = record {
  lanes : l.lanes.items ≡ map (new_lane l.self) (lanes_from l.bin l.rank 0 l.number);
  len : vec_len l.lanes ≡ l.number;
  room : l.count ≤ vec_capacity l.lanes;
  root : l.root ≡ record l.initial.root { parts = l.root.parts };
  left : (n : ℕ) → l.number ≤ n → n < l.count → Contains l.root.parts (empty_part (record { rank = l.rank; bin = l.bin; number = n }));
  others : (x : LaneName) → ((x.bin ≡ l.bin) × (x.rank ≡ l.rank) → ⊥) → Contains l.initial.root.parts (empty_part x) → Contains l.root.parts (empty_part x);
}
