use Rattle.std.proofs.Common.{◌≡◌, drop}
use Rattle.container.specs.LookUps.{first_waited}
use Rattle.container.specs.WaitLog.{left_in}
use Rattle.container.proofs.wait_log.waited.Given as goal

abbrev pub invariant-loop-slot : goal.invariant-loop-slot
invariant-loop-slot l = first_waited l.version (left_in (drop l.slot-index l.log)) ≡ first_waited l.version (left_in l.log)
