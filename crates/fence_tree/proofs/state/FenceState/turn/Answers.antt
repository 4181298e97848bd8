use Rattle.std.proofs.Common.{suc, sym, ap, subst, ◌∙◌, arith}
use Rattle.world_words.specs.Lanes.{LaneView}
use Rattle.fence_tree.specs.declared.items.Verdict.{Verdict}
use Rattle.fence_tree.specs.Verdicts.{IsRight}
use Rattle.fence_tree.specs.Turns.{StateView, Turned, IsQuietReceipt}
use Rattle.fence_tree.proofs.TurnLemmas.{still_stop, still_turned, turned_both, turning_still, few_answered}
use Rattle.fence_tree.proofs.TurnEndLemmas.{quiet_receipt}
use Rattle.fence_tree.proofs.AnswerLemmas.{done_tells, answered_same}
use Rattle.fence_tree.proofs.state.FenceState.turn.Goals as goal

pub returns-then-is_stopped-clause-turned : goal.returns-then-is_stopped-clause-turned
returns-then-is_stopped-clause-turned g c =
    let a = c.args in
    let w = a.words.now in
    let may = g.A.Facts.may_do w.app in
    let s = a.self.now in
    let still = still_stop w may a.lane.now c.is_stopped.new.lane _ _ c.is_stopped.ensures.lane c.is_stopped.ensures.sees in
    still_turned w may s.fence a.lane.now c.is_stopped.new.lane still

pub reach-requires-clause-turning : goal.reach-requires-clause-turning
reach-requires-clause-turning g c =
    let a = c.args in
    let w = a.words.now in
    let may = g.A.Facts.may_do w.app in
    let s = a.self.now in
    let still = still_stop w may a.lane.now c.is_stopped.new.lane _ _ c.is_stopped.ensures.lane c.is_stopped.ensures.sees in
    turning_still w may s a.lane.now c.is_stopped.new.lane still c.requires.turning

pub announce-requires-clause-few : goal.announce-requires-clause-few
announce-requires-clause-few g c =
    let a = c.args in
    let few = few_answered a.words.now a.self.now a.lane.now c.requires.turning c.requires.room.1 in
    let same = ap (λ (z : StateView). z.answered) c.reach.ensures.state in
    omega (arith, few, same)

pub conclude-requires : goal.conclude-requires
conclude-requires g c =
    let a = c.args in
    let few = few_answered a.words.now a.self.now a.lane.now c.requires.turning c.requires.room.1 in
    let same = ap (λ (z : StateView). z.answered) c.reach.ensures.state in
    omega (arith, few, same)

pub returns-in-Ok-clause-done : goal.returns-in-Ok-clause-done
returns-in-Ok-clause-done g c =
    let a = c.args in
    let w = a.words.now in
    let may = g.A.Facts.may_do w.app in
    let s = a.self.now in
    let still = still_stop w may a.lane.now c.is_stopped.new.lane _ _ c.is_stopped.ensures.lane c.is_stopped.ensures.sees in
    λ r e.
    let is = done_tells c.in-Ok.verdict _ r (sym c.conclude.ensures.answer ∙ e) in
    let h = c.in-Ok.ensures.reached in
    let right = subst (λ (v : Verdict). IsRight w.ranks s.fence (suc s.answered) v c.reach.new.lane.seen) is h.right in
    subst (λ (z : LaneView). IsQuietReceipt s.fence r z.seen) (sym c.announce.ensures) (quiet_receipt w s.fence r c.reach.new.lane.seen c.receipts_are_quiet.ensures h.read.lane.legal right)

pub returns-in-Ok-clause-turned : goal.returns-in-Ok-clause-turned
returns-in-Ok-clause-turned g c =
    let a = c.args in
    let w = a.words.now in
    let may = g.A.Facts.may_do w.app in
    let s = a.self.now in
    let still = still_stop w may a.lane.now c.is_stopped.new.lane _ _ c.is_stopped.ensures.lane c.is_stopped.ensures.sees in
    turned_both s.fence a.lane.now c.is_stopped.new.lane c.announce.new.lane (still_turned w may s.fence a.lane.now c.is_stopped.new.lane still) (subst (λ (z : LaneView). Turned s.fence c.is_stopped.new.lane z) (sym c.announce.ensures) c.reach.ensures.turned)

pub returns-in-Err-clause-turned : goal.returns-in-Err-clause-turned
returns-in-Err-clause-turned g c =
    let a = c.args in
    let w = a.words.now in
    let may = g.A.Facts.may_do w.app in
    let s = a.self.now in
    let still = still_stop w may a.lane.now c.is_stopped.new.lane _ _ c.is_stopped.ensures.lane c.is_stopped.ensures.sees in
    turned_both s.fence a.lane.now c.is_stopped.new.lane c.reach.new.lane (still_turned w may s.fence a.lane.now c.is_stopped.new.lane still) c.reach.ensures.turned

pub returns-in-Ok-clause-answered : goal.returns-in-Ok-clause-answered
returns-in-Ok-clause-answered g c = λ first moved.
    answered_same c.in-Ok.verdict c.reach.new.self c.conclude.new.self _ c.conclude.result c.conclude.ensures.answer c.conclude.ensures.state first moved ∙ ap (λ (z : StateView). z.answered) c.reach.ensures.state

pub returns-in-Err-clause-answered : goal.returns-in-Err-clause-answered
returns-in-Err-clause-answered g c = λ first moved. ap (λ (z : StateView). z.answered) c.reach.ensures.state
