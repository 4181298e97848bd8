use Rattle.std.proofs.Common.{◌≡◌, ◌-◌, ◌++◌}
use Rattle.haar_units.specs.Units.{count_futures}
use Rattle.haar_steps.proofs.starts.counts.Given as goal

abbrev pub invariant-loop-rank : goal.invariant-loop-rank
invariant-loop-rank l = l.labels.items ++ count_futures l.command l.rank (l.ranks - l.rank) ≡ count_futures l.command 0 l.ranks
