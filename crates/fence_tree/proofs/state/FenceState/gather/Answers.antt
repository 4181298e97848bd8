use Rattle.std.proofs.Common.{suc, sym, ap, subst, arith}
use Rattle.std.specs.Prelude.{Option, IfSome}
use Rattle.event_lists.specs.Events.{Begins}
use Rattle.world_words.specs.Lanes.{WordsView, ToldView}
use Rattle.fence_tree.specs.Verdicts.{IsReport}
use Rattle.fence_tree.specs.Turns.{StateView, Knows}
use Rattle.fence_tree.proofs.TurnLemmas.{still_learnt}
use Rattle.fence_tree.proofs.TreeLemmas.{no_child, gather_knows, gather_subtree}
use Rattle.fence_tree.proofs.state.FenceState.gather.Goals as goal

pub returns-then-child-self-clause-subtree : goal.returns-then-child-self-clause-subtree
returns-then-child-self-clause-subtree g c =
    let a = c.args in
    let le = c.if-child-self.true in
    let ranks = c.requires.knows.ranks in
    let here = ap (λ (s : StateView). s.ranks) c.self.view_is in
    no_child a.words.now.ranks a.child a.self.now.rows (omega (arith, le, ranks, here))

pub returns-clause-knows : goal.returns-clause-knows
returns-clause-knows g c =
    let a = c.args in
    let w = a.words.now in
    let may = g.A.Facts.may_do w.app in
    let k = subst (λ (s : StateView). Knows w s (suc a.self.now.answered) a.lane.now) (sym c.self.view_is) c.requires.knows in
    let still = still_learnt w may a.lane.now c.learn.new.lane c.learn.ensures.lane c.learn.ensures.sees in
    let is = subst (λ (o : Option (WordsView g.row.A.Denot)). IfSome o (λ words. IsReport words c.in-Some.report)) c.requires.named c.into_parts-rows.ensures.right in
    let told = c.into_parts-rows.ensures.parts.1 in
    let pass = c.in-Some.ensures.2 in
    gather_knows w may _ (suc a.self.now.answered) a.lane.now c.learn.new.lane still k c.in-Some.report is c.into_parts-rows.result.0 c.add.new.self c.into_parts-rows.ensures.parts.0 c.add.ensures
    c.in-Some.ensures.1 (omega (arith, pass)) (subst (λ (t : ToldView). Begins t.seen c.learn.new.lane.seen) told c.learn.ensures.learnt)

pub returns-clause-subtree : goal.returns-clause-subtree
returns-clause-subtree g c =
    let a = c.args in
    let w = a.words.now in
    let may = g.A.Facts.may_do w.app in
    let k = subst (λ (s : StateView). Knows w s (suc a.self.now.answered) a.lane.now) (sym c.self.view_is) c.requires.knows in
    let still = still_learnt w may a.lane.now c.learn.new.lane c.learn.ensures.lane c.learn.ensures.sees in
    let is = subst (λ (o : Option (WordsView g.row.A.Denot)). IfSome o (λ words. IsReport words c.in-Some.report)) c.requires.named c.into_parts-rows.ensures.right in
    gather_subtree w may _ (suc a.self.now.answered) a.lane.now c.learn.new.lane still k c.in-Some.report is c.into_parts-rows.result.0 c.add.new.self c.into_parts-rows.ensures.parts.0 c.add.ensures
    a.child c.in-Some.ensures.0
