use Rattle.std.proofs.Common.{◌≡◌, ℕ, suc, ◌+◌, ◌*◌, sym, ap, subst, ◌∙◌, arith}
use Rattle.event_lists.specs.Events.{Begins}
use Rattle.world_words.specs.Lanes.{LaneView}
use Rattle.fence_tree.specs.declared.state.Stage.TheVariants.{SecondChild}
use Rattle.fence_tree.specs.Rows.{HasSubtree}
use Rattle.fence_tree.specs.Turns.{StateView, Knows, IsTurning, Turned}
use Rattle.fence_tree.proofs.TurnLemmas.{still_turned, turned_both}
use Rattle.fence_tree.proofs.StageLemmas as stages
use Rattle.fence_tree.proofs.state.FenceState.gather_second.Goals as goal

pub returns-in_err-gather-clause-turned : goal.returns-in_err-gather-clause-turned
returns-in_err-gather-clause-turned g c =
    let a = c.args in
    let w = a.words.now in
    let may = g.A.Facts.may_do w.app in
    let s = a.self.now in
    let got = c.gather.ensures.knows.read.lane in
    let one = still_turned w may s.fence a.lane.now c.gather.new.lane (stages.still_seen w may a.lane.now c.gather.new.lane c.gather.ensures.lane c.gather.ensures.knew got.legal got.own) in
    one

pub decide-requires-clause-rows : goal.decide-requires-clause-rows
decide-requires-clause-rows g c =
    let a = c.args in
    let w = a.words.now in
    let may = g.A.Facts.may_do w.app in
    let s = a.self.now in
    let got = c.gather.ensures.knows.read.lane in
    let one = still_turned w may s.fence a.lane.now c.gather.new.lane (stages.still_seen w may a.lane.now c.gather.new.lane c.gather.ensures.lane c.gather.ensures.knew got.legal got.own) in
    let own = stages.gathered_in w s a.lane.now SecondChild c.requires.stage c.requires.turning in
    let whole = stages.whole_subtree w s c.gather.new.lane c.gather.new.self c.gather.ensures.state c.gather.ensures.knows c.gather.ensures.kept own (subst (λ (r : ℕ). HasSubtree w.ranks (2 * r + 2) c.gather.new.self.rows) (ap (λ (z : StateView). z.rank) c.self.view_is) c.in_ok-gather.ensures.subtree) in
    let root = sym (ap (λ (z : StateView). z.rank) c.self-2.view_is) ∙ c.if-self-eq0.true in
    subst (λ (r : ℕ). HasSubtree w.ranks r c.gather.new.self.rows) root whole

pub returns-then-self-eq0-clause-turned : goal.returns-then-self-eq0-clause-turned
returns-then-self-eq0-clause-turned g c =
    let a = c.args in
    let w = a.words.now in
    let may = g.A.Facts.may_do w.app in
    let s = a.self.now in
    let got = c.gather.ensures.knows.read.lane in
    let one = still_turned w may s.fence a.lane.now c.gather.new.lane (stages.still_seen w may a.lane.now c.gather.new.lane c.gather.ensures.lane c.gather.ensures.knew got.legal got.own) in
    let fence = ap (λ (z : StateView). z.fence) c.gather.ensures.state in
    turned_both s.fence a.lane.now c.gather.new.lane c.decide.new.lane one (subst (λ (f : ℕ). Turned f c.gather.new.lane c.decide.new.lane) fence c.decide.ensures.turned)

pub report-requires-clause-subtree : goal.report-requires-clause-subtree
report-requires-clause-subtree g c =
    let a = c.args in
    let w = a.words.now in
    let may = g.A.Facts.may_do w.app in
    let s = a.self.now in
    let got = c.gather.ensures.knows.read.lane in
    let one = still_turned w may s.fence a.lane.now c.gather.new.lane (stages.still_seen w may a.lane.now c.gather.new.lane c.gather.ensures.lane c.gather.ensures.knew got.legal got.own) in
    let own = stages.gathered_in w s a.lane.now SecondChild c.requires.stage c.requires.turning in
    let whole = stages.whole_subtree w s c.gather.new.lane c.gather.new.self c.gather.ensures.state c.gather.ensures.knows c.gather.ensures.kept own (subst (λ (r : ℕ). HasSubtree w.ranks (2 * r + 2) c.gather.new.self.rows) (ap (λ (z : StateView). z.rank) c.self.view_is) c.in_ok-gather.ensures.subtree) in
    whole

pub hear-requires-clause-knows : goal.hear-requires-clause-knows
hear-requires-clause-knows g c =
    let a = c.args in
    let w = a.words.now in
    let may = g.A.Facts.may_do w.app in
    let s = a.self.now in
    let got = c.gather.ensures.knows.read.lane in
    let one = still_turned w may s.fence a.lane.now c.gather.new.lane (stages.still_seen w may a.lane.now c.gather.new.lane c.gather.ensures.lane c.gather.ensures.knew got.legal got.own) in
    let taken = stages.taken_in w s c.gather.new.lane c.gather.new.self c.gather.ensures.state c.gather.ensures.knows c.gather.ensures.kept in
    let here = subst (Knows w c.gather.new.self (suc c.gather.new.self.answered)) (sym c.report.ensures.lane) taken in
    subst (λ (z : StateView). Knows w z (suc z.answered) c.report.new.lane) (sym c.report.ensures.state) (stages.reported_knows w c.gather.new.self c.report.new.lane (suc c.gather.new.self.answered) here)

pub returns-clause-again : goal.returns-clause-again
returns-clause-again g c =
    let a = c.args in
    let w = a.words.now in
    let may = g.A.Facts.may_do w.app in
    let s = a.self.now in
    let got = c.gather.ensures.knows.read.lane in
    let one = still_turned w may s.fence a.lane.now c.gather.new.lane (stages.still_seen w may a.lane.now c.gather.new.lane c.gather.ensures.lane c.gather.ensures.knew got.legal got.own) in
    let taken = stages.taken_in w s c.gather.new.lane c.gather.new.self c.gather.ensures.state c.gather.ensures.knows c.gather.ensures.kept in
    let here = subst (Knows w c.gather.new.self (suc c.gather.new.self.answered)) (sym c.report.ensures.lane) taken in
    let some = c.if-self-eq0.false in
    let rank = ap (λ (z : StateView). z.rank) c.self-2.view_is in
    let turning = subst (λ (z : StateView). IsTurning w z c.report.new.lane) (sym c.report.ensures.state) (stages.reported w c.gather.new.self c.report.new.lane (omega (arith, some, rank)) here) in
    stages.on_err c.hear.result (λ same. subst (IsTurning w c.report.new.self) (sym same) turning) c.hear.ensures.again

pub returns-clause-turned : goal.returns-clause-turned
returns-clause-turned g c =
    let a = c.args in
    let w = a.words.now in
    let may = g.A.Facts.may_do w.app in
    let s = a.self.now in
    let got = c.gather.ensures.knows.read.lane in
    let one = still_turned w may s.fence a.lane.now c.gather.new.lane (stages.still_seen w may a.lane.now c.gather.new.lane c.gather.ensures.lane c.gather.ensures.knew got.legal got.own) in
    let lane = subst (λ (z : LaneView). c.hear.new.lane ≡ record z { seen = c.hear.new.lane.seen }) c.report.ensures.lane c.hear.ensures.lane in
    let knew = subst (λ (z : LaneView). Begins z.seen c.hear.new.lane.seen) c.report.ensures.lane c.hear.ensures.knew in
    turned_both s.fence a.lane.now c.gather.new.lane c.hear.new.lane one (stages.turned_seen s.fence c.gather.new.lane c.hear.new.lane lane knew)
