use Rattle.std.proofs.Common.{◌≡◌, take}
use Rattle.container.specs.WaitLog.{left_in}
use Rattle.container.proofs.wait_list.made_of.Given as goal

abbrev pub invariant-loop-slot : goal.invariant-loop-slot
invariant-loop-slot l = l.made ≡ left_in (take l.slot-index l.log)
