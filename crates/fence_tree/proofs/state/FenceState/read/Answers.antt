use Rattle.std.proofs.Common.{◌≡◌, suc, sym, ap, subst, ◌∙◌}
use Rattle.std.specs.Prelude.{Some}
use Rattle.event_lists.specs.Events.{main_of, part}
use Rattle.event_lists.specs.Fences.{row_of}
use Rattle.fence_tree.specs.declared.state.Stage.TheVariants.{Reading}
use Rattle.fence_tree.specs.Turns.{StateView, Knows}
use Rattle.fence_tree.proofs.TurnLemmas.{still_ran, still_submitted, still_turned, turned_both, turning_still, read_so_far, own_row}
use Rattle.fence_tree.proofs.StageLemmas.{gathered_in}
use Rattle.fence_tree.proofs.state.FenceState.read.Goals as goal

pub returns-then-ran-submitted-clause-turning : goal.returns-then-ran-submitted-clause-turning
returns-then-ran-submitted-clause-turning g c =
    let a = c.args in
    let w = a.words.now in
    let may = g.A.Facts.may_do w.app in
    let s = a.self.now in
    let t = c.requires.turning in
    let one = still_ran w may a.lane.now c.look_ran-ran.new.lane _ c.look_ran-ran.ensures.lane c.look_ran-ran.ensures.sees in
    let two = still_submitted w may c.look_ran-ran.new.lane c.look_submitted-submitted.new.lane _ c.look_submitted-submitted.ensures.lane c.look_submitted-submitted.ensures.sees in
    turning_still w may s c.look_ran-ran.new.lane c.look_submitted-submitted.new.lane two (turning_still w may s a.lane.now c.look_ran-ran.new.lane one t)

pub returns-then-ran-submitted-clause-turned : goal.returns-then-ran-submitted-clause-turned
returns-then-ran-submitted-clause-turned g c =
    let a = c.args in
    let w = a.words.now in
    let may = g.A.Facts.may_do w.app in
    let s = a.self.now in
    let t = c.requires.turning in
    let one = still_ran w may a.lane.now c.look_ran-ran.new.lane _ c.look_ran-ran.ensures.lane c.look_ran-ran.ensures.sees in
    let two = still_submitted w may c.look_ran-ran.new.lane c.look_submitted-submitted.new.lane _ c.look_submitted-submitted.ensures.lane c.look_submitted-submitted.ensures.sees in
    turned_both s.fence a.lane.now c.look_ran-ran.new.lane c.look_submitted-submitted.new.lane (still_turned w may s.fence a.lane.now c.look_ran-ran.new.lane one) (still_turned w may s.fence c.look_ran-ran.new.lane c.look_submitted-submitted.new.lane two)

pub attempt-requires-clause-knows : goal.attempt-requires-clause-knows
attempt-requires-clause-knows g c =
    let a = c.args in
    let w = a.words.now in
    let may = g.A.Facts.may_do w.app in
    let s = a.self.now in
    let t = c.requires.turning in
    let one = still_ran w may a.lane.now c.look_ran-ran.new.lane _ c.look_ran-ran.ensures.lane c.look_ran-ran.ensures.sees in
    let two = still_submitted w may c.look_ran-ran.new.lane c.look_submitted-submitted.new.lane _ c.look_submitted-submitted.ensures.lane c.look_submitted-submitted.ensures.sees in
    read_so_far w s c.look_submitted-submitted.new.lane c.requires.stage (turning_still w may s c.look_ran-ran.new.lane c.look_submitted-submitted.new.lane two (turning_still w may s a.lane.now c.look_ran-ran.new.lane one t))

pub returns-in_err-row-clause-turned : goal.returns-in_err-row-clause-turned
returns-in_err-row-clause-turned g c =
    let a = c.args in
    let w = a.words.now in
    let may = g.A.Facts.may_do w.app in
    let s = a.self.now in
    let t = c.requires.turning in
    let one = still_ran w may a.lane.now c.look_ran-ran.new.lane _ c.look_ran-ran.ensures.lane c.look_ran-ran.ensures.sees in
    let two = still_submitted w may c.look_ran-ran.new.lane c.look_submitted-submitted.new.lane _ c.look_submitted-submitted.ensures.lane c.look_submitted-submitted.ensures.sees in
    turned_both s.fence a.lane.now c.look_submitted-submitted.new.lane c.attempt.new.lane (turned_both s.fence a.lane.now c.look_ran-ran.new.lane c.look_submitted-submitted.new.lane (still_turned w may s.fence a.lane.now c.look_ran-ran.new.lane one) (still_turned w may s.fence c.look_ran-ran.new.lane c.look_submitted-submitted.new.lane two)) c.attempt.ensures.turned

pub returns-clause-turned : goal.returns-clause-turned
returns-clause-turned g c =
    let a = c.args in
    let w = a.words.now in
    let may = g.A.Facts.may_do w.app in
    let s = a.self.now in
    let t = c.requires.turning in
    let one = still_ran w may a.lane.now c.look_ran-ran.new.lane _ c.look_ran-ran.ensures.lane c.look_ran-ran.ensures.sees in
    let two = still_submitted w may c.look_ran-ran.new.lane c.look_submitted-submitted.new.lane _ c.look_submitted-submitted.ensures.lane c.look_submitted-submitted.ensures.sees in
    turned_both s.fence a.lane.now c.look_submitted-submitted.new.lane c.attempt.new.lane (turned_both s.fence a.lane.now c.look_ran-ran.new.lane c.look_submitted-submitted.new.lane (still_turned w may s.fence a.lane.now c.look_ran-ran.new.lane one) (still_turned w may s.fence c.look_ran-ran.new.lane c.look_submitted-submitted.new.lane two)) c.attempt.ensures.turned

pub returns-clause-turning : goal.returns-clause-turning
returns-clause-turning g c =
    let a = c.args in
    let w = a.words.now in
    let may = g.A.Facts.may_do w.app in
    let s = a.self.now in
    let t = c.requires.turning in
    let one = still_ran w may a.lane.now c.look_ran-ran.new.lane _ c.look_ran-ran.ensures.lane c.look_ran-ran.ensures.sees in
    let two = still_submitted w may c.look_ran-ran.new.lane c.look_submitted-submitted.new.lane _ c.look_submitted-submitted.ensures.lane c.look_submitted-submitted.ensures.sees in
    let v = c.attempt.new.lane in
    let k = subst (λ (z : StateView). Knows w z (suc z.answered) v) (sym c.self.view_is) c.in_ok-row.ensures.knows in
    let none = ap (λ (z : StateView). z.rows) c.self.view_is ∙ gathered_in w s a.lane.now Reading c.requires.stage t in
    let found = subst (λ (z : StateView). row_of z.fence (suc z.answered) (part (main_of z.rank) v.seen) ≡ Some c.in_ok-row.row) (sym c.self.view_is) c.in_ok-row.ensures.row in
    own_row w _ v k c.set.new.self c.in_ok-row.row c.set.ensures.own c.set.ensures.others none found
