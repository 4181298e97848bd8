use Rattle.std.proofs.Common.{◌≡◌, ◌∷◌, take}
use Rattle.container.specs.WaitLog.{emptied}
use Rattle.container.proofs.wait_log.empty.Given as goal

abbrev pub invariant-loop-place : goal.invariant-loop-place
invariant-loop-place l = l.log.items ≡ emptied l.fn.log.items (l.first ∷ take l.place-index l.later)
