use Rattle.std.proofs.Common.{◌≡◌, vec_len}
use Rattle.container.proofs.rank_bins.Container.new.Given as goal

abbrev pub invariant-loop : goal.invariant-loop
invariant-loop g l = vec_len l.bins ≡ l.counter
