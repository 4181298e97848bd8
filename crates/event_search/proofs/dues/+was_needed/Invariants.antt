use Rattle.std.proofs.Common.{length}
use Rattle.event_search.proofs.dues.+was_needed.Given as goal

abbrev pub decreases-was_needed : goal.decreases-was_needed
decreases-was_needed l = length l.marks.now
