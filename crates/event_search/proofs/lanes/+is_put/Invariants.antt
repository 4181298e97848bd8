use Rattle.std.proofs.Common.{length}
use Rattle.event_search.proofs.lanes.+is_put.Given as goal

abbrev pub decreases-is_put : goal.decreases-is_put
decreases-is_put l = length l.marks.now
