use Rattle.std.proofs.Common.{◌≡◌, ◌-◌, ◌++◌}
use Rattle.haar_steps.specs.Starts.{spawn_counts}
use Rattle.haar_steps.proofs.starts.push_counts.Given as goal

abbrev pub invariant-loop-rank : goal.invariant-loop-rank
invariant-loop-rank l = l.effects ++ spawn_counts l.command l.rank (l.ranks - l.rank) ≡ l.fn.effects ++ spawn_counts l.command 0 l.ranks
