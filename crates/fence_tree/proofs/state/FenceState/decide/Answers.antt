use Rattle.std.proofs.Common.{◌≡◌, suc, ◌+◌, ◌-◌, refl, sym, ap, subst, ◌∙◌, arith}
use Rattle.fence_tree.specs.declared.items.Verdict.TheVariants.{FirstPass, Moved, Done}
use Rattle.fence_tree.specs.Rows.{sums_of, HasSubtree}
use Rattle.fence_tree.specs.Turns.{StateView, Knows, IsReached, Turned}
use Rattle.fence_tree.proofs.TreeLemmas.{all_there}
use Rattle.fence_tree.proofs.TurnEndLemmas as ends
use Rattle.fence_tree.proofs.state.FenceState.decide.Goals as goal

pub returns-then-self-eq0-clause-reached : goal.returns-then-self-eq0-clause-reached
returns-then-self-eq0-clause-reached g c =
    let a = c.args in
    let w = a.words.now in
    let v = a.lane.now in
    let k = subst (λ (s : StateView). Knows w s (suc s.answered) v) (sym c.self.view_is) c.requires.knows in
    let has = subst (λ (s : StateView). HasSubtree w.ranks 0 s.rows) (sym c.self.view_is) c.requires.rows in
    let sums = c.sums-sums.ensures ∙ ap (sums_of c.self.inside.rows) (sym k.ranks) in
    subst (λ (s : StateView). IsReached w s.rank s.fence s.answered (FirstPass c.sums-sums.result) v) c.self.view_is
    (ends.reached_by w _ (FirstPass c.sums-sums.result) v k (ends.first_right w _ v k has c.if-self-eq0.true c.sums-sums.result sums))

pub returns-clause-reached : goal.returns-clause-reached
returns-clause-reached g c =
    let a = c.args in
    let w = a.words.now in
    let v = a.lane.now in
    let k = subst (λ (s : StateView). Knows w s (suc s.answered) v) (sym c.self.view_is) c.requires.knows in
    let has = subst (λ (s : StateView). HasSubtree w.ranks 0 s.rows) (sym c.self.view_is) c.requires.rows in
    let sums = c.sums-sums.ensures ∙ ap (sums_of c.self.inside.rows) (sym k.ranks) in
    let some = c.if-self-eq0.false in
    let above : c.self.inside.answered ≡ suc (c.self.inside.answered - 1) = omega (arith, some) in
    subst (λ (s : StateView). IsReached w s.rank s.fence s.answered (Moved c.self.inside.last c.sums-sums.result) v) c.self.view_is
    (ends.reached_by w _ (Moved c.self.inside.last c.sums-sums.result) v k
    (ends.moved_right w _ v k has (c.self.inside.answered - 1) above c.sums-sums.result sums (λ equal. let t = c.agree.ensures.1 equal in let f = c.if-agree.false in absurd (cc))))

pub all-requires-clause-known : goal.all-requires-clause-known
all-requires-clause-known g c = λ q lt.
    let a = c.args in
    let w = a.words.now in
    let v = a.lane.now in
    let k = subst (λ (s : StateView). Knows w s (suc s.answered) v) (sym c.self.view_is) c.requires.knows in
    let has = subst (λ (s : StateView). HasSubtree w.ranks 0 s.rows) (sym c.self.view_is) c.requires.rows in
    let ranks = k.ranks in
    all_there w.ranks c.self.inside.fence (suc c.self.inside.answered) c.self.inside.rows v.seen has k.rows q (omega (arith, lt, ranks))

pub mark_receipt-requires-clause-receipt : goal.mark_receipt-requires-clause-receipt
mark_receipt-requires-clause-receipt g c =
    let a = c.args in
    let w = a.words.now in
    let v = a.lane.now in
    let k = subst (λ (s : StateView). Knows w s (suc s.answered) v) (sym c.self.view_is) c.requires.knows in
    let has = subst (λ (s : StateView). HasSubtree w.ranks 0 s.rows) (sym c.self.view_is) c.requires.rows in
    let sums = c.sums-sums.ensures ∙ ap (sums_of c.self.inside.rows) (sym k.ranks) in
    let some = c.if-self-eq0.false in
    let above : c.self.inside.answered ≡ suc (c.self.inside.answered - 1) = omega (arith, some) in
    let root = ap (λ (s : StateView). s.rank) c.self.view_is ∙ c.requires.rank in
    let ranks = k.ranks in
    ends.fences_receipt w _ v k has root (record { fence = c.self.inside.fence; pass = c.self.inside.answered + 1; rows = c.all.result }) refl
    (ends.may_receive w _ v k has (c.self.inside.answered - 1) above c.sums-sums.result sums (c.agree.ensures.0 c.if-agree.true) c.all.result (c.all.ensures.length ∙ sym ranks)
    (λ q lt. c.all.ensures.rows q (omega (arith, lt, ranks))) (record { fence = c.self.inside.fence; pass = c.self.inside.answered + 1; rows = c.all.result }) refl (omega arith) refl)

pub returns-then-agree-clause-reached : goal.returns-then-agree-clause-reached
returns-then-agree-clause-reached g c =
    let a = c.args in
    let w = a.words.now in
    let v = a.lane.now in
    let k = subst (λ (s : StateView). Knows w s (suc s.answered) v) (sym c.self.view_is) c.requires.knows in
    let has = subst (λ (s : StateView). HasSubtree w.ranks 0 s.rows) (sym c.self.view_is) c.requires.rows in
    let root = ap (λ (s : StateView). s.rank) c.self.view_is ∙ c.requires.rank in
    subst (λ (s : StateView). IsReached w s.rank s.fence s.answered (Done (record { fence = c.self.inside.fence; pass = c.self.inside.answered + 1; rows = c.all.result })) c.mark_receipt.new.lane) c.self.view_is
    (ends.received w _ v k has (g.A.Facts.may_do w.app) root (record { fence = c.self.inside.fence; pass = c.self.inside.answered + 1; rows = c.all.result }) refl c.mark_receipt.new.lane c.mark_receipt.ensures)

pub returns-then-agree-clause-turned : goal.returns-then-agree-clause-turned
returns-then-agree-clause-turned g c =
    let a = c.args in
    let w = a.words.now in
    let v = a.lane.now in
    let k = subst (λ (s : StateView). Knows w s (suc s.answered) v) (sym c.self.view_is) c.requires.knows in
    let has = subst (λ (s : StateView). HasSubtree w.ranks 0 s.rows) (sym c.self.view_is) c.requires.rows in
    let root = ap (λ (s : StateView). s.rank) c.self.view_is ∙ c.requires.rank in
    subst (λ (s : StateView). Turned s.fence v c.mark_receipt.new.lane) c.self.view_is
    (ends.receipt_turned w _ v k has (g.A.Facts.may_do w.app) root (record { fence = c.self.inside.fence; pass = c.self.inside.answered + 1; rows = c.all.result }) refl c.mark_receipt.new.lane c.mark_receipt.ensures)
