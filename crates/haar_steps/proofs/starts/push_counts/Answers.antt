use Rattle.std.proofs.Common.{◌++◌, arith}
use Rattle.haar_steps.specs.Starts.{spawn_counts}
use Rattle.haar_steps.proofs.CountLemmas.{spawns_next}
use Rattle.haar_steps.proofs.starts.push_counts.Goals as goal

pub loop-rank-preserved : goal.loop-rank-preserved
loop-rank-preserved c =
    spawns_next c.args.command c.loop-rank.rank c.args.ranks c.loop-rank.effects c.push.new.self (c.args.effects.now ++ spawn_counts c.args.command 0 c.args.ranks) (omega arith)
    c.in_ok-push.ensures.ok c.loop-rank.invariant
