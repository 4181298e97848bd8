use Rattle.std.proofs.Common.{◌≡◌, ◌+◌, ◌≤◌, ◌++◌, length, All}
use Rattle.std.specs.Vec.Iter.{into_iter_items, into_iter_len}
use Rattle.world_words.specs.Closing.{own_parts, kept_parts, IsFree}
use Rattle.world_words.proofs.words.Words.fold_rank.Given as goal

abbrev pub invariant-loop-lane : goal.invariant-loop-lane
invariant-loop-lane g l = (l.root.table ≡ l.self.table)
    × (l.root.parts ++ own_parts (into_iter_items l.lane-iterator) ≡ l.initial.root.parts ++ own_parts (into_iter_items l.initial.lane-iterator))
    × (l.root.book ++ kept_parts (into_iter_items l.lane-iterator) ≡ l.initial.root.book ++ kept_parts (into_iter_items l.initial.lane-iterator))
    × All (IsFree l.self) (into_iter_items l.lane-iterator)
    × (length (into_iter_items l.lane-iterator) ≤ l.root.room)
    × (l.initial.root.room + length (into_iter_items l.lane-iterator) ≤ l.root.room + length (into_iter_items l.initial.lane-iterator))
    × (into_iter_len l.lane-iterator ≡ length (into_iter_items l.lane-iterator))
