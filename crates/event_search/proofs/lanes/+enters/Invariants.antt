use Rattle.std.proofs.Common.{length}
use Rattle.event_search.proofs.lanes.+enters.Given as goal

abbrev pub decreases-enters : goal.decreases-enters
decreases-enters l = length l.marks.now
