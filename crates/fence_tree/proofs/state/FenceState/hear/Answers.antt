use Rattle.std.proofs.Common.{ap, subst, ◌∙◌, arith}
use Rattle.std.specs.Prelude.{Option, IfSome}
use Rattle.event_lists.specs.Events.{Begins}
use Rattle.world_words.specs.Lanes.{WordsView, ToldView}
use Rattle.fence_tree.specs.Verdicts.{IsAnnouncement}
use Rattle.fence_tree.specs.Turns.{StateView}
use Rattle.fence_tree.proofs.TurnLemmas.{still_learnt, heard}
use Rattle.fence_tree.proofs.state.FenceState.hear.Goals as goal

pub returns-clause-reached : goal.returns-clause-reached
returns-clause-reached g c =
    let a = c.args in
    let w = a.words.now in
    let may = g.A.Facts.may_do w.app in
    let still = still_learnt w may a.lane.now c.learn.new.lane c.learn.ensures.lane c.learn.ensures.sees in
    let is = subst (λ (o : Option (WordsView g.row.A.Denot)). IfSome o (λ words. IsAnnouncement words c.in-Some.announcement)) c.requires.named c.into_parts-verdict.ensures.right in
    let pass = c.in-Some.ensures.2 in
    let here = ap (λ (s : StateView). s.answered) c.self.view_is in
    heard w may a.self.now a.lane.now c.learn.new.lane still c.requires.knows c.in-Some.announcement is (c.in-Some.ensures.1 ∙ ap (λ (s : StateView). s.fence) c.self.view_is) (omega (arith, pass, here))
    (subst (λ (t : ToldView). Begins t.seen c.learn.new.lane.seen) c.into_parts-verdict.ensures.parts.1 c.learn.ensures.learnt) c.into_parts-verdict.result.0 c.into_parts-verdict.ensures.parts.0
