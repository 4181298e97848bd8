use Rattle.std.proofs.Common.{◌≡◌, ◌+◌, ◌≤◌, ◌++◌, length, All}
use Rattle.std.specs.Vec.Iter.{into_iter_items, into_iter_len}
use Rattle.world_words.specs.Closing.{all_of, own_parts, kept_parts, IsFree}
use Rattle.world_words.proofs.words.Words.fold_ranks.Given as goal

abbrev pub invariant-loop-lanes : goal.invariant-loop-lanes
invariant-loop-lanes g l = (l.root.table ≡ l.self.table)
    × (l.root.parts ++ own_parts (all_of (into_iter_items l.lanes-iterator)) ≡ l.initial.root.parts ++ own_parts (all_of (into_iter_items l.initial.lanes-iterator)))
    × (l.root.book ++ kept_parts (all_of (into_iter_items l.lanes-iterator)) ≡ l.initial.root.book ++ kept_parts (all_of (into_iter_items l.initial.lanes-iterator)))
    × All (IsFree l.self) (all_of (into_iter_items l.lanes-iterator))
    × (length (all_of (into_iter_items l.lanes-iterator)) ≤ l.root.room)
    × (l.initial.root.room + length (all_of (into_iter_items l.lanes-iterator)) ≤ l.root.room + length (all_of (into_iter_items l.initial.lanes-iterator)))
    × (into_iter_len l.lanes-iterator ≡ length (into_iter_items l.lanes-iterator))
