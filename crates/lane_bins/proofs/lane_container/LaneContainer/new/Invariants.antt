use Rattle.std.proofs.Common.{◌≡◌, ◌≤◌, ◌+◌, All, length, vec_len, vec_capacity}
use Rattle.std.specs.Vec.Iter.{into_iter_items, into_iter_len}
use Rattle.lane_bins.specs.LaneBins.{IsNewBinLane}
use Rattle.lane_bins.proofs.lane_container.LaneContainer.new.Given as goal

abbrev pub invariant-loop-lane : goal.invariant-loop-lane
invariant-loop-lane g l = (vec_len l.bins + length (into_iter_items l.lane-iterator) ≡ 16)
    × (16 ≤ vec_capacity l.bins)
    × (into_iter_len l.lane-iterator ≡ length (into_iter_items l.lane-iterator))
    × All (IsNewBinLane g.J.WordsNaming.words) (into_iter_items l.lane-iterator)
