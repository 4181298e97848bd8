use Rattle.std.proofs.Common.{sym, ◌∙◌, below_more, arith}
use Rattle.event_rules.proofs.PassLemmas.{there_is, there_is_none}
use Rattle.event_rules.proofs.fences.is_complete.Goals as goal

pub returns-then-is_none : goal.returns-then-is_none
returns-then-is_none g c =
    ((λ t. absurd (cc)), (λ all. let a = all c.loop-rank.rank (omega (arith, c.loop-rank-test.true, c.ranks-rank-end.ensures)) in absurd (there_is_none c.row.result a.0 (c.if-is_none.ensures) (c.row.ensures ∙ a.1))))

pub loop-rank-preserved : goal.loop-rank-preserved
loop-rank-preserved g c =
    below_more _ _ c.loop-rank.invariant (let a = there_is c.row.result (c.if-is_none.ensures) in (a.0, sym c.row.ensures ∙ a.1))
