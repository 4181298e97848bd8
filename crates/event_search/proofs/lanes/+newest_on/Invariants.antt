use Rattle.std.proofs.Common.{length}
use Rattle.event_search.proofs.lanes.+newest_on.Given as goal

abbrev pub decreases-newest_on : goal.decreases-newest_on
decreases-newest_on l = length l.marks.now
