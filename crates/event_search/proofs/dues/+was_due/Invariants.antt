use Rattle.std.proofs.Common.{length}
use Rattle.event_search.proofs.dues.+was_due.Given as goal

abbrev pub decreases-was_due : goal.decreases-was_due
decreases-was_due l = length l.marks.now
