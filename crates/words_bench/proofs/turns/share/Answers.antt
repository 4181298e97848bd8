use Rattle.std.proofs.Common.{List, subst}
use Rattle.event_lists.specs.declared.mark.Mark.{Mark}
use Rattle.event_lists.specs.Events.{Begins}
use Rattle.event_lists.proofs.FenceLemmas.{row_lasts, receipt_lasts}
use Rattle.words_tests.proofs.TurnLemmas.{inside_still}
use Rattle.words_bench.proofs.turns.share.Goals as goal

pub returns-clause-inside : goal.returns-clause-inside
returns-clause-inside g c =
    let a = c.args in inside_still a.words.now (g.A.Facts.may_do a.words.now.app) a.fence a.pass a.to.now c.learn.new.lane c.learn.ensures.lane c.learn.ensures.sees c.requires.to

pub returns-clause-learnt : goal.returns-clause-learnt
returns-clause-learnt g c = λ f p q row has.
    let a = c.args in
    let s = c.learn.ensures in
    let begins = subst (λ (z : List Mark). Begins z c.learn.new.lane.seen) c.tell-told.ensures.told.1 s.learnt in
    row_lasts a.words.now.ranks a.words.now.workers a.from.now.seen c.learn.new.lane.seen s.sees.run.1.legal begins q f p row has

pub returns-clause-knew : goal.returns-clause-knew
returns-clause-knew g c = λ f p q row has.
    let a = c.args in
    let s = c.learn.ensures in
    row_lasts a.words.now.ranks a.words.now.workers a.to.now.seen c.learn.new.lane.seen s.sees.run.1.legal s.sees.seen q f p row has

pub returns-clause-receipt : goal.returns-clause-receipt
returns-clause-receipt g c = λ has.
    let a = c.args in
    let s = c.learn.ensures in
    let begins = subst (λ (z : List Mark). Begins z c.learn.new.lane.seen) c.tell-told.ensures.told.1 s.learnt in
    receipt_lasts a.from.now.seen c.learn.new.lane.seen begins a.fence has
