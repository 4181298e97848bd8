use Rattle.std.proofs.Common.{sym, ◌∙◌, arith}
use Rattle.std.proofs.lemmas.List.{length-set}
use Rattle.fence_tree.proofs.RowLemmas.{put_next, taken}
use Rattle.fence_tree.proofs.rows.KnownRows.all.Goals as goal

pub unreachable-requires : goal.unreachable-requires
unreachable-requires c =
    let known = c.requires.known c.loop-rank.rank c.loop-rank-test.true in
    c.in_default.not-Some known.0 (c.get.ensures ∙ known.1)

pub loop-rank-preserved : goal.loop-rank-preserved
loop-rank-preserved c =
    let was = c.loop-rank.invariant in
    let few = c.requires.ranks in
    let lt = c.loop-rank-test.true in (
      length-set c.loop-rank.rows c.loop-rank.rank c.in-Some.row ∙ was.0,
      put_next c.loop-rank.rows c.args.self.now c.loop-rank.rank c.in-Some.row was.0 (omega (arith, few, lt)) (sym c.get.ensures ∙ c.in-Some.is) was.1,
    )

pub returns-clause-rows : goal.returns-clause-rows
returns-clause-rows c =
    let stop = c.loop-rank-test.false in
    taken c.loop-rank.rows c.in-Some-of.kept c.args.self.now c.loop-rank.rank c.args.ranks c.in-Some-of.ensures.rows (omega (arith, stop)) c.loop-rank.invariant.1
