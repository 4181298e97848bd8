use Rattle.std.proofs.Common.{ℕ, ◌+◌, ◌*◌, sym, ap, subst, ◌∙◌}
use Rattle.fence_tree.specs.declared.state.Stage.TheVariants.{FirstChild, SecondChild}
use Rattle.fence_tree.specs.Rows.{HasSubtree}
use Rattle.fence_tree.specs.Turns.{StateView, IsTurning, Turned}
use Rattle.fence_tree.proofs.TurnLemmas.{still_turned, turned_both}
use Rattle.fence_tree.proofs.StageLemmas as stages
use Rattle.fence_tree.proofs.state.FenceState.gather_first.Goals as goal

pub returns-in_err-gather-clause-turned : goal.returns-in_err-gather-clause-turned
returns-in_err-gather-clause-turned g c =
    let a = c.args in
    let w = a.words.now in
    let may = g.A.Facts.may_do w.app in
    let s = a.self.now in
    let got = c.gather.ensures.knows.read.lane in
    let one = still_turned w may s.fence a.lane.now c.gather.new.lane (stages.still_seen w may a.lane.now c.gather.new.lane c.gather.ensures.lane c.gather.ensures.knew got.legal got.own) in
    one

pub gather_second-requires-clause-turning : goal.gather_second-requires-clause-turning
gather_second-requires-clause-turning g c =
    let a = c.args in
    let w = a.words.now in
    let may = g.A.Facts.may_do w.app in
    let s = a.self.now in
    let got = c.gather.ensures.knows.read.lane in
    let one = still_turned w may s.fence a.lane.now c.gather.new.lane (stages.still_seen w may a.lane.now c.gather.new.lane c.gather.ensures.lane c.gather.ensures.knew got.legal got.own) in
    let own = stages.gathered_in w s a.lane.now FirstChild c.requires.stage c.requires.turning in
    let next = stages.second_stage w s c.gather.new.lane c.gather.new.self c.gather.ensures.state c.gather.ensures.knows c.gather.ensures.kept own (subst (λ (r : ℕ). HasSubtree w.ranks (2 * r + 1) c.gather.new.self.rows) (ap (λ (z : StateView). z.rank) c.self.view_is) c.in_ok-gather.ensures.subtree) in
    subst (λ (z : StateView). IsTurning w (record z { stage = SecondChild }) c.gather.new.lane) (sym c.self-2.view_is) next

pub returns-clause-turned : goal.returns-clause-turned
returns-clause-turned g c =
    let a = c.args in
    let w = a.words.now in
    let may = g.A.Facts.may_do w.app in
    let s = a.self.now in
    let got = c.gather.ensures.knows.read.lane in
    let one = still_turned w may s.fence a.lane.now c.gather.new.lane (stages.still_seen w may a.lane.now c.gather.new.lane c.gather.ensures.lane c.gather.ensures.knew got.legal got.own) in
    let fence = ap (λ (z : StateView). z.fence) (c.self-2.view_is ∙ c.gather.ensures.state) in
    turned_both s.fence a.lane.now c.gather.new.lane c.gather_second.new.lane one (subst (λ (f : ℕ). Turned f c.gather.new.lane c.gather_second.new.lane) fence c.gather_second.ensures.turned)
