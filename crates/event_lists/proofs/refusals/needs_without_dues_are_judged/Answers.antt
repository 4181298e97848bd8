use Rattle.event_lists.proofs.RefusedRunLemmas.{entered_with_dues, entered_without_a_due, ran_with_dues, ran_without_a_due}
use Rattle.event_lists.proofs.refusals.needs_without_dues_are_judged.Goals as goal

pub returns-clause-enter : goal.returns-clause-enter
returns-clause-enter c = entered_with_dues

pub returns-clause-enter_without_a_due : goal.returns-clause-enter_without_a_due
returns-clause-enter_without_a_due c = entered_without_a_due

pub returns-clause-ran : goal.returns-clause-ran
returns-clause-ran c = ran_with_dues

pub returns-clause-ran_without_a_due : goal.returns-clause-ran_without_a_due
returns-clause-ran_without_a_due c = ran_without_a_due
