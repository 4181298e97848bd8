use Rattle.std.proofs.Common.{◌≡◌, ℕ, ◌<◌, ◌≤◌, vec_len, vec_capacity, Contains}
use Rattle.event_lists.specs.declared.lane.LaneName.{LaneName}
use Rattle.world_rule.specs.Views.{empty_part}
use Rattle.world_words.specs.Closing.{new_ranks}
use Rattle.world_words.proofs.words.Words.new_ranks.Given as goal

abbrev pub invariant-loop-rank : goal.invariant-loop-rank
invariant-loop-rank g l = record {
  lanes : l.lanes.items ≡ new_ranks l.self l.bin l.count 0 l.rank;
  len : vec_len l.lanes ≡ l.rank;
  room : l.self.ranks ≤ vec_capacity l.lanes;
  root : l.root ≡ record l.initial.root { parts = l.root.parts };
  left : (r n : ℕ) → l.rank ≤ r → r < l.self.ranks → n < l.count → Contains l.root.parts (empty_part (record { rank = r; bin = l.bin; number = n }));
  others : (x : LaneName) → (x.bin ≡ l.bin → ⊥) → Contains l.initial.root.parts (empty_part x) → Contains l.root.parts (empty_part x);
}
