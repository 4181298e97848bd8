use Rattle.std.proofs.Common.{◌∷◌, ap, refl, arith}
use Rattle.std.specs.Prelude.{None}
use Rattle.event_lists.specs.declared.lane.LaneName.{LaneName}
use Rattle.event_lists.specs.declared.kind.Kind.TheVariants.{Handlings as handlings, Submissions as submissions, Runs as runs}
use Rattle.event_lists.specs.Fences.{reading}
use Rattle.event_lists.proofs.ListLemmas.{begins_trans}
use Rattle.words_tests.proofs.TurnLemmas.{read_one, reads_next}
use Rattle.words_tests.proofs.turns.attempt.Goals as goal

pub read_handled-handled-requires-clause-free : goal.read_handled-handled-requires-clause-free
read_handled-handled-requires-clause-free g c = let m = c.requires.inside.reading.main in (m.owes, ap (λ (l : LaneName). l.bin) m.name)

pub read_handled-handled-requires-clause-next : goal.read_handled-handled-requires-clause-next
read_handled-handled-requires-clause-next g c =
    let a = c.args in let i = c.requires.inside in reads_next a.words.now a.fence a.pass i.rs handlings a.lane.now i.reading i.next (i.may_open, c.requires.ready)

pub read_ran-tasks-requires-clause-free : goal.read_ran-tasks-requires-clause-free
read_ran-tasks-requires-clause-free g c =
    let a = c.args in let i = c.requires.inside in
    let one = read_one a.words.now (g.A.Facts.may_do a.words.now.app) None a.lane.now c.read_handled-handled.new.lane handlings c.read_handled-handled.result a.fence a.pass i.rs c.read_handled-handled.ensures i.reading in
    (one.main.owes, ap (λ (l : LaneName). l.bin) one.main.name)

pub read_ran-tasks-requires-clause-next : goal.read_ran-tasks-requires-clause-next
read_ran-tasks-requires-clause-next g c =
    let a = c.args in let i = c.requires.inside in
    let one = read_one a.words.now (g.A.Facts.may_do a.words.now.app) None a.lane.now c.read_handled-handled.new.lane handlings c.read_handled-handled.result a.fence a.pass i.rs c.read_handled-handled.ensures i.reading in
    reads_next a.words.now a.fence a.pass (reading handlings c.read_handled-handled.result a.fence a.pass ∷ i.rs) runs c.read_handled-handled.new.lane one (let n = i.next in omega (arith, n)) (c.read_handled-handled.result, i.rs, refl)

pub read_submitted-submitted-requires-clause-next : goal.read_submitted-submitted-requires-clause-next
read_submitted-submitted-requires-clause-next g c =
    let a = c.args in let i = c.requires.inside in
    let may = g.A.Facts.may_do a.words.now.app in
    let one = read_one a.words.now may None a.lane.now c.read_handled-handled.new.lane handlings c.read_handled-handled.result a.fence a.pass i.rs c.read_handled-handled.ensures i.reading in
    let two = read_one a.words.now may None c.read_handled-handled.new.lane c.read_ran-tasks.new.lane runs c.read_ran-tasks.result a.fence a.pass (reading handlings c.read_handled-handled.result a.fence a.pass ∷ i.rs) c.read_ran-tasks.ensures one in
    reads_next a.words.now a.fence a.pass (reading runs c.read_ran-tasks.result a.fence a.pass ∷ (reading handlings c.read_handled-handled.result a.fence a.pass ∷ i.rs)) submissions c.read_ran-tasks.new.lane two (let n = i.next in omega (arith, n)) (c.read_ran-tasks.result, reading handlings c.read_handled-handled.result a.fence a.pass ∷ i.rs, refl)

pub returns-then-submitted-tasks-clause-knows : goal.returns-then-submitted-tasks-clause-knows
returns-then-submitted-tasks-clause-knows g c =
    begins_trans _ _ _ c.read_handled-handled.ensures.sees.seen (begins_trans _ _ _ c.read_ran-tasks.ensures.sees.seen c.read_submitted-submitted.ensures.sees.seen)

pub returns-clause-knows : goal.returns-clause-knows
returns-clause-knows g c =
    begins_trans _ _ _ c.read_handled-handled.ensures.sees.seen (begins_trans _ _ _ c.read_ran-tasks.ensures.sees.seen (begins_trans _ _ _ c.read_submitted-submitted.ensures.sees.seen c.read_sent-sent.ensures.sees.seen))
