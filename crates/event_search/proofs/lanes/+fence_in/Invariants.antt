use Rattle.std.proofs.Common.{length}
use Rattle.event_search.proofs.lanes.+fence_in.Given as goal

abbrev pub decreases-fence_in : goal.decreases-fence_in
decreases-fence_in l = length l.marks.now
