use Rattle.std.proofs.Common.{ℕ, ap, subst, ◌∙◌}
use Rattle.event_lists.specs.declared.lane.LaneName.{LaneName}
use Rattle.event_lists.proofs.FenceLemmas.{row_lasts}
use Rattle.words_tests.specs.Turns.{HasRow}
use Rattle.words_tests.proofs.turns.read_all.Goals as goal

pub tell_all-requires-clause-rows : goal.tell_all-requires-clause-rows
tell_all-requires-clause-rows g c =
    let f = c.args.fence in
    let p = c.args.pass in
    let names = c.requires.ready.names in (
      subst (λ (r : ℕ). HasRow f p r c.in-Some.first c.attempt.new.lane.seen) (ap (λ (l : LaneName). l.rank) c.attempt.ensures.name ∙ names.0) (c.attempt.ensures.row _ c.in-Some.is),
      subst (λ (r : ℕ). HasRow f p r c.in-Some-attempt.second c.attempt-2.new.lane.seen) (ap (λ (l : LaneName). l.rank) c.attempt-2.ensures.name ∙ names.1) (c.attempt-2.ensures.row _ c.in-Some-attempt.is),
      subst (λ (r : ℕ). HasRow f p r c.in-Some-attempt-2.third c.attempt-3.new.lane.seen) (ap (λ (l : LaneName). l.rank) c.attempt-3.ensures.name ∙ names.2) (c.attempt-3.ensures.row _ c.in-Some-attempt-2.is),
    )

pub returns-clause-knew : goal.returns-clause-knew
returns-clause-knew g c = λ rows is p q row has.
    let w = c.args.words.now in
    let legal = (c.attempt.ensures.inside _ c.in-Some.is).reading.main.legal in
    c.tell_all.ensures.knew c.args.fence p q row (row_lasts w.ranks w.workers c.args.zero.now.seen c.attempt.new.lane.seen legal c.attempt.ensures.knows q c.args.fence p row has)
