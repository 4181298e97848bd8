use Rattle.event_lists.proofs.TaskRunLemmas.{legal_run, refused_taken, refused_handled, refused_ran}
use Rattle.event_lists.proofs.laws.a_run_with_tasks_is_judged.Goals as goal

pub returns-clause-whole_run : goal.returns-clause-whole_run
returns-clause-whole_run c = legal_run

pub returns-clause-taken_before_a_need_is_given : goal.returns-clause-taken_before_a_need_is_given
returns-clause-taken_before_a_need_is_given c = refused_taken

pub returns-clause-handled_before_the_submission : goal.returns-clause-handled_before_the_submission
returns-clause-handled_before_the_submission c = refused_handled

pub returns-clause-ran_with_a_due_kept : goal.returns-clause-ran_with_a_due_kept
returns-clause-ran_with_a_due_kept c = refused_ran
