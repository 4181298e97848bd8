use Rattle.std.proofs.Common.{length}
use Rattle.haar_tests.proofs.kinds.outcome_of.Given as goal

abbrev pub decreases-loop-effect : goal.decreases-loop-effect
decreases-loop-effect l = length l.queue
