use Rattle.std.proofs.Common.{length}
use Rattle.event_search.proofs.lanes.+is_fresh.Given as goal

abbrev pub decreases-is_fresh : goal.decreases-is_fresh
decreases-is_fresh l = length l.marks.now
