use Rattle.std.proofs.Common.{◌≤◌, length, vec_len}
use Rattle.std.specs.Prelude.{All}
use Rattle.crew.proofs.hands.hands_of.Given as goal

abbrev pub invariant-loop-at_pool : goal.invariant-loop-at_pool
invariant-loop-at_pool g l = record {
  many : vec_len l.seats ≤ length l.shares;
  seats : All (λ at_pool. All (λ seat. seat ≤ l.workers) at_pool.items) l.seats.items;
}

abbrev pub decreases-loop-at_pool : goal.decreases-loop-at_pool
decreases-loop-at_pool g l = vec_len l.seats
