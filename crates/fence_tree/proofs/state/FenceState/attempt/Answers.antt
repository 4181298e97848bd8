use Rattle.std.proofs.Common.{◌≡◌, suc, ◌+◌, sym, ap, subst, arith}
use Rattle.fence_tree.specs.Turns.{StateView, Knows, Turned}
use Rattle.fence_tree.proofs.TurnLemmas.{passes_below}
use Rattle.fence_tree.proofs.AttemptLemmas as attempts
use Rattle.fence_tree.proofs.state.FenceState.attempt.Goals as goal

pub overflow_add-pass : goal.overflow_add-pass
overflow_add-pass g c =
    let b = passes_below c.args.lane.now.mine in
    let p = c.requires.knows.read.passes in
    let here = ap (λ (s : StateView). s.answered) c.self.view_is in
    let few = c.requires.room.1 in
    omega (arith, b, p, here, few)

pub read_handled-handled-requires-clause-next : goal.read_handled-handled-requires-clause-next
read_handled-handled-requires-clause-next g c =
    let a = c.args in
    let w = a.words.now in
    let may = g.A.Facts.may_do w.app in
    let is : c.self.inside.answered + 1 ≡ suc c.self.inside.answered = omega arith in
    let k = subst (λ (s : StateView). Knows w s s.answered a.lane.now) (sym c.self.view_is) c.requires.knows in
    attempts.handled_next w may _ (c.self.inside.answered + 1) is a.lane.now k

pub read_ran-ran-requires-clause-next : goal.read_ran-ran-requires-clause-next
read_ran-ran-requires-clause-next g c =
    let a = c.args in
    let w = a.words.now in
    let may = g.A.Facts.may_do w.app in
    let is : c.self.inside.answered + 1 ≡ suc c.self.inside.answered = omega arith in
    let k = subst (λ (s : StateView). Knows w s s.answered a.lane.now) (sym c.self.view_is) c.requires.knows in
    attempts.ran_next w may _ (c.self.inside.answered + 1) is a.lane.now k c.read_handled-handled.result c.read_handled-handled.new.lane c.read_handled-handled.ensures

pub read_submitted-submitted-requires-clause-next : goal.read_submitted-submitted-requires-clause-next
read_submitted-submitted-requires-clause-next g c =
    let a = c.args in
    let w = a.words.now in
    let may = g.A.Facts.may_do w.app in
    let is : c.self.inside.answered + 1 ≡ suc c.self.inside.answered = omega arith in
    let k = subst (λ (s : StateView). Knows w s s.answered a.lane.now) (sym c.self.view_is) c.requires.knows in
    attempts.submitted_next w may _ (c.self.inside.answered + 1) is a.lane.now k c.read_handled-handled.result c.read_handled-handled.new.lane c.read_handled-handled.ensures c.read_ran-ran.result c.read_ran-ran.new.lane c.read_ran-ran.ensures

pub returns-then-ran-submitted-clause-again : goal.returns-then-ran-submitted-clause-again
returns-then-ran-submitted-clause-again g c =
    let a = c.args in
    let w = a.words.now in
    let may = g.A.Facts.may_do w.app in
    let is : c.self.inside.answered + 1 ≡ suc c.self.inside.answered = omega arith in
    let k = subst (λ (s : StateView). Knows w s s.answered a.lane.now) (sym c.self.view_is) c.requires.knows in
    subst (λ (s : StateView). Knows w s s.answered c.read_submitted-submitted.new.lane) c.self.view_is (attempts.again w may _ (c.self.inside.answered + 1) is a.lane.now k c.read_handled-handled.result c.read_handled-handled.new.lane c.read_handled-handled.ensures c.read_ran-ran.result c.read_ran-ran.new.lane c.read_ran-ran.ensures c.read_submitted-submitted.result c.read_submitted-submitted.new.lane c.read_submitted-submitted.ensures c.if-ran-submitted.true)

pub returns-then-ran-submitted-clause-turned : goal.returns-then-ran-submitted-clause-turned
returns-then-ran-submitted-clause-turned g c =
    let a = c.args in
    let w = a.words.now in
    let may = g.A.Facts.may_do w.app in
    let is : c.self.inside.answered + 1 ≡ suc c.self.inside.answered = omega arith in
    let k = subst (λ (s : StateView). Knows w s s.answered a.lane.now) (sym c.self.view_is) c.requires.knows in
    subst (λ (s : StateView). Turned s.fence a.lane.now c.read_submitted-submitted.new.lane) c.self.view_is (attempts.turned3 w may _ (c.self.inside.answered + 1) is a.lane.now k c.read_handled-handled.result c.read_handled-handled.new.lane c.read_handled-handled.ensures c.read_ran-ran.result c.read_ran-ran.new.lane c.read_ran-ran.ensures c.read_submitted-submitted.result c.read_submitted-submitted.new.lane c.read_submitted-submitted.ensures)

pub read_sent-sent-requires-clause-next : goal.read_sent-sent-requires-clause-next
read_sent-sent-requires-clause-next g c =
    let a = c.args in
    let w = a.words.now in
    let may = g.A.Facts.may_do w.app in
    let is : c.self.inside.answered + 1 ≡ suc c.self.inside.answered = omega arith in
    let k = subst (λ (s : StateView). Knows w s s.answered a.lane.now) (sym c.self.view_is) c.requires.knows in
    let less = c.if-ran-submitted.false in
    attempts.sent_next w may _ (c.self.inside.answered + 1) is a.lane.now k c.read_handled-handled.result c.read_handled-handled.new.lane c.read_handled-handled.ensures c.read_ran-ran.result c.read_ran-ran.new.lane c.read_ran-ran.ensures c.read_submitted-submitted.result c.read_submitted-submitted.new.lane c.read_submitted-submitted.ensures (λ lt. omega (arith, lt, less))

pub returns-clause-knows : goal.returns-clause-knows
returns-clause-knows g c =
    let a = c.args in
    let w = a.words.now in
    let may = g.A.Facts.may_do w.app in
    let is : c.self.inside.answered + 1 ≡ suc c.self.inside.answered = omega arith in
    let k = subst (λ (s : StateView). Knows w s s.answered a.lane.now) (sym c.self.view_is) c.requires.knows in
    subst (λ (s : StateView). Knows w s (suc s.answered) c.read_sent-sent.new.lane) c.self.view_is (attempts.complete w may _ (c.self.inside.answered + 1) is a.lane.now k c.read_handled-handled.result c.read_handled-handled.new.lane c.read_handled-handled.ensures c.read_ran-ran.result c.read_ran-ran.new.lane c.read_ran-ran.ensures c.read_submitted-submitted.result c.read_submitted-submitted.new.lane c.read_submitted-submitted.ensures c.read_sent-sent.result c.read_sent-sent.new.lane c.read_sent-sent.ensures)

pub returns-clause-turned : goal.returns-clause-turned
returns-clause-turned g c =
    let a = c.args in
    let w = a.words.now in
    let may = g.A.Facts.may_do w.app in
    let is : c.self.inside.answered + 1 ≡ suc c.self.inside.answered = omega arith in
    let k = subst (λ (s : StateView). Knows w s s.answered a.lane.now) (sym c.self.view_is) c.requires.knows in
    subst (λ (s : StateView). Turned s.fence a.lane.now c.read_sent-sent.new.lane) c.self.view_is (attempts.turned4 w may _ (c.self.inside.answered + 1) is a.lane.now k c.read_handled-handled.result c.read_handled-handled.new.lane c.read_handled-handled.ensures c.read_ran-ran.result c.read_ran-ran.new.lane c.read_ran-ran.ensures c.read_submitted-submitted.result c.read_submitted-submitted.new.lane c.read_submitted-submitted.ensures c.read_sent-sent.result c.read_sent-sent.new.lane c.read_sent-sent.ensures)
