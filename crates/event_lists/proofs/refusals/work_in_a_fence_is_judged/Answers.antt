use Rattle.event_lists.proofs.RefusedRunLemmas.{took_in_a_fence, submitted_at_work, sent_at_work, submitted_in_a_fence, sent_in_a_fence, read_in_a_fence, read_at_work}
use Rattle.event_lists.proofs.refusals.work_in_a_fence_is_judged.Goals as goal

pub returns-clause-takes : goal.returns-clause-takes
returns-clause-takes c = took_in_a_fence

pub returns-clause-submits_for_its_task : goal.returns-clause-submits_for_its_task
returns-clause-submits_for_its_task c = submitted_at_work

pub returns-clause-sends_for_its_task : goal.returns-clause-sends_for_its_task
returns-clause-sends_for_its_task c = sent_at_work

pub returns-clause-submits_by_itself : goal.returns-clause-submits_by_itself
returns-clause-submits_by_itself c = submitted_in_a_fence

pub returns-clause-sends_by_itself : goal.returns-clause-sends_by_itself
returns-clause-sends_by_itself c = sent_in_a_fence

pub returns-clause-reads : goal.returns-clause-reads
returns-clause-reads c = read_in_a_fence

pub returns-clause-reads_at_work : goal.returns-clause-reads_at_work
returns-clause-reads_at_work c = read_at_work
