use Rattle.std.proofs.Common.{◌≡◌, vec_len}
use Rattle.crew.proofs.ranks.inboxes_of.Given as goal

abbrev pub invariant-loop : goal.invariant-loop
invariant-loop g l = vec_len l.inboxes ≡ l.counter
