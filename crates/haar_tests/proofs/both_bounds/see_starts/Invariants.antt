use Rattle.std.proofs.Common.{length}
use Rattle.haar_tests.proofs.both_bounds.see_starts.Given as goal

abbrev pub decreases-loop-effect : goal.decreases-loop-effect
decreases-loop-effect g l = length l.queue
