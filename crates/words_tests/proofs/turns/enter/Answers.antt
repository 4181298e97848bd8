use Rattle.std.proofs.Common.{ap, refl, arith}
use Rattle.std.specs.Prelude.{None}
use Rattle.event_lists.specs.declared.lane.LaneName.{LaneName}
use Rattle.words_tests.proofs.TurnLemmas.{needs_are_dues, entered_fence, deeds_same}
use Rattle.words_tests.proofs.turns.enter.Goals as goal

pub mark_enter-requires-clause-free : goal.mark_enter-requires-clause-free
mark_enter-requires-clause-free g c = let m = c.requires.outside.main in (m.owes, ap (λ (l : LaneName). l.bin) m.name)

pub mark_enter-requires-clause-main : goal.mark_enter-requires-clause-main
mark_enter-requires-clause-main g c = let m = c.requires.outside.main in (m.name, m.hand)

pub mark_enter-requires-clause-fence : goal.mark_enter-requires-clause-fence
mark_enter-requires-clause-fence g c = let e = c.requires.outside.main.entries in (c.requires.outside.outside, omega (arith, e))

pub mark_enter-requires-clause-needs : goal.mark_enter-requires-clause-needs
mark_enter-requires-clause-needs g c = needs_are_dues c.args.words.now c.args.left c.args.lane.now c.requires.outside.main

pub returns-clause-inside : goal.returns-clause-inside
returns-clause-inside g c =
    let a = c.args in entered_fence a.words.now (g.A.Facts.may_do a.words.now.app) None a.lane.now c.mark_enter.new.lane a.left c.mark_enter.ensures c.requires.outside

pub returns-clause-done : goal.returns-clause-done
returns-clause-done g c =
    let a = c.args in deeds_same a.words.now (g.A.Facts.may_do a.words.now.app) None a.lane.now c.mark_enter.new.lane _ c.mark_enter.ensures c.requires.outside.main.hand refl
