use Rattle.std.proofs.Common.{length}
use Rattle.event_search.proofs.fences.+newest_reading.Given as goal

abbrev pub decreases-newest_reading : goal.decreases-newest_reading
decreases-newest_reading l = length l.marks.now
