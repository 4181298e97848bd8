use Rattle.std.proofs.Common.{◌≡◌, ◌∷◌, take}
use Rattle.container.specs.WaitLog.{callbacks_at}
use Rattle.container.proofs.wait_log.collect.Given as goal

abbrev pub invariant-loop-place : goal.invariant-loop-place
invariant-loop-place l = l.callbacks ≡ callbacks_at l.log (l.first ∷ take l.place-index l.later)
