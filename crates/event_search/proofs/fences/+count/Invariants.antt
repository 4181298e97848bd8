use Rattle.std.proofs.Common.{length}
use Rattle.event_search.proofs.fences.+count.Given as goal

abbrev pub decreases-count : goal.decreases-count
decreases-count l = length l.marks.now
