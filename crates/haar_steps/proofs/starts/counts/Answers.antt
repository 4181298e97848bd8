use Rattle.std.proofs.Common.{◌∙◌, ◌++◌, ◌∷◌, [], ap, arith}
use Rattle.app_core.specs.declared.Label.{Label}
use Rattle.haar_units.specs.Units.{count_futures}
use Rattle.haar_steps.proofs.CountLemmas.{counts_next}
use Rattle.haar_steps.proofs.starts.counts.Goals as goal

pub loop-rank-preserved : goal.loop-rank-preserved
loop-rank-preserved c =
    counts_next c.args.command c.loop-rank.rank c.args.ranks c.loop-rank.labels.items c.push.new.self.items (count_futures c.args.command 0 c.args.ranks) (omega arith)
    (c.in_ok-push.ensures.ok ∙ ap (λ (l : Label). c.loop-rank.labels.items ++ l ∷ []) c.counted.ensures) c.loop-rank.invariant
