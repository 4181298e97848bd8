use Rattle.std.proofs.Common.{◌≤◌, vec_len}
use Rattle.std.specs.Prelude.{All}
use Rattle.crew.proofs.hands.add_hands.Given as goal

abbrev pub invariant-loop-seat : goal.invariant-loop-seat
invariant-loop-seat g l = All (λ seat. seat ≤ l.share.workers) l.seats.items

abbrev pub decreases-loop-seat : goal.decreases-loop-seat
decreases-loop-seat g l = vec_len l.seats
