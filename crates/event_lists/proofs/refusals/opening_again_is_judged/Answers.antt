use Rattle.event_lists.proofs.RefusedRunLemmas.{opened_again, different_is_no_pass, equal_stays, submitted_is_open, fence_ends}
use Rattle.event_lists.proofs.refusals.opening_again_is_judged.Goals as goal

pub returns-clause-different : goal.returns-clause-different
returns-clause-different c = opened_again

pub returns-clause-different_completes_no_pass : goal.returns-clause-different_completes_no_pass
returns-clause-different_completes_no_pass c = different_is_no_pass

pub returns-clause-equal : goal.returns-clause-equal
returns-clause-equal c = equal_stays

pub returns-clause-submitted_is_not_read : goal.returns-clause-submitted_is_not_read
returns-clause-submitted_is_not_read c = submitted_is_open

pub returns-clause-the_fence_ends : goal.returns-clause-the_fence_ends
returns-clause-the_fence_ends c = fence_ends
