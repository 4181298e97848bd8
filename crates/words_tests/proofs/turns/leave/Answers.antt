use Rattle.std.proofs.Common.{ap, refl, ◌∙◌, arith}
use Rattle.std.specs.Prelude.{None}
use Rattle.event_laws.specs.Follows.{deeds}
use Rattle.event_lists.specs.declared.lane.LaneName.{LaneName}
use Rattle.words_tests.proofs.TurnLemmas.{left_fence, one_deed}
use Rattle.words_tests.proofs.turns.leave.Goals as goal

pub mark_leave-requires-clause-free : goal.mark_leave-requires-clause-free
mark_leave-requires-clause-free g c = let m = c.requires.inside.reading.main in (m.owes, ap (λ (l : LaneName). l.bin) m.name)

pub mark_leave-requires-clause-main : goal.mark_leave-requires-clause-main
mark_leave-requires-clause-main g c = let m = c.requires.inside.reading.main in (m.name, m.hand, c.requires.inside.reading.inside)

pub returns-clause-outside : goal.returns-clause-outside
returns-clause-outside g c =
    let a = c.args in left_fence a.words.now (g.A.Facts.may_do a.words.now.app) None a.fence a.pass a.lane.now c.mark_leave.new.lane c.mark_leave.ensures c.requires.inside

pub returns-clause-done : goal.returns-clause-done
returns-clause-done g c =
    let e = ap deeds c.mark_leave.ensures.event ∙ one_deed _ c.args.lane.now.mine None c.requires.inside.reading.main.hand refl in omega (arith, e)
