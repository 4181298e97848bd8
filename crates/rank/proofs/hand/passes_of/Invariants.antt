use Rattle.std.proofs.Common.{◌≡◌, vec_len}
use Rattle.rank.proofs.hand.passes_of.Given as goal

abbrev pub invariant-loop-rank : goal.invariant-loop-rank
invariant-loop-rank g l = vec_len l.passes ≡ l.rank
