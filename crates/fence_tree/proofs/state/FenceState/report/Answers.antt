use Rattle.std.proofs.Common.{suc, ◌+◌, sym, subst, arith}
use Rattle.std.specs.Prelude.{Option, IfSome}
use Rattle.world_words.specs.Lanes.{WordsView}
use Rattle.fence_tree.specs.Rows.{HasSubtree}
use Rattle.fence_tree.specs.Verdicts.{IsReport}
use Rattle.fence_tree.specs.Turns.{StateView, Knows}
use Rattle.fence_tree.proofs.StageLemmas.{is_report}
use Rattle.fence_tree.proofs.state.FenceState.report.Goals as goal

pub new-report-requires : goal.new-report-requires
new-report-requires g c =
    let a = c.args in
    let w = a.words.now in
    let k = subst (λ (s : StateView). Knows w s (suc s.answered) a.lane.now) (sym c.self.view_is) c.requires.knows in
    let has = subst (λ (s : StateView). HasSubtree w.ranks s.rank s.rows) (sym c.self.view_is) c.requires.subtree in
    subst (λ (o : Option (WordsView g.row.A.Denot)).
    IfSome o (λ words. IsReport words (record { rank = c.self.inside.rank; fence = c.self.inside.fence; pass = c.self.inside.answered + 1; rows = c.replace-rows.result; told = c.tell-told.result })))
    (sym c.requires.named)
    (is_report w _ a.lane.now k has c.tell-told.result c.tell-told.ensures.told c.replace-rows.result c.replace-rows.ensures.value (c.self.inside.answered + 1) (omega arith))
