use Rattle.std.proofs.Common.{length}
use Rattle.event_search.proofs.fences.+passes.Given as goal

abbrev pub decreases-passes : goal.decreases-passes
decreases-passes l = length l.marks.now
