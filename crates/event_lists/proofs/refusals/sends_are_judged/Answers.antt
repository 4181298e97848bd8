use Rattle.event_lists.proofs.RefusedRunLemmas.{sent_to_another, sent_to_itself, sent_to_nobody}
use Rattle.event_lists.proofs.refusals.sends_are_judged.Goals as goal

pub returns-clause-to_another_rank : goal.returns-clause-to_another_rank
returns-clause-to_another_rank c = sent_to_another

pub returns-clause-to_its_own_rank : goal.returns-clause-to_its_own_rank
returns-clause-to_its_own_rank c = sent_to_itself

pub returns-clause-to_no_rank : goal.returns-clause-to_no_rank
returns-clause-to_no_rank c = sent_to_nobody
