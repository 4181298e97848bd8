use Rattle.std.proofs.Common.{length}
use Rattle.unit_driver.proofs.driver.Driver.run_job.Given as goal

abbrev pub decreases-loop-effect : goal.decreases-loop-effect
decreases-loop-effect l = length l.queue
