use Rattle.std.proofs.Common.{ℕ, ◌+◌, ap, subst, ◌∙◌}
use Rattle.event_lists.specs.declared.lane.LaneName.{LaneName}
use Rattle.words_tests.specs.Turns.{HasRow}
use Rattle.words_tests.proofs.work.pass_working_fence.Goals as goal

pub tell_all-requires-clause-rows : goal.tell_all-requires-clause-rows
tell_all-requires-clause-rows g c =
    let f = c.args.left + 1 in
    let names = c.requires.outside.names in (
      subst (λ (r : ℕ). HasRow f 1 r c.in-Some.first c.attempt.new.lane.seen) (ap (λ (l : LaneName). l.rank) (c.attempt.ensures.name ∙ c.enter.ensures.name) ∙ names.0) (c.attempt.ensures.row _ c.in-Some.is),
      subst (λ (r : ℕ). HasRow f 1 r c.in-Some-read_after_work.second c.read_after_work.new.lane.seen) (ap (λ (l : LaneName). l.rank) (c.read_after_work.ensures.name ∙ c.enter-2.ensures.name) ∙ names.1) (c.read_after_work.ensures.row _ c.in-Some-read_after_work.is),
      subst (λ (r : ℕ). HasRow f 1 r c.in-Some-read_after_work-2.third c.read_after_work-2.new.lane.seen) (ap (λ (l : LaneName). l.rank) (c.read_after_work-2.ensures.name ∙ c.enter-3.ensures.name) ∙ names.2) (c.read_after_work-2.ensures.row _ c.in-Some-read_after_work-2.is),
    )
