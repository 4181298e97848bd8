use Rattle.event_lists.proofs.RefusedRunLemmas.{entered, no_rank, worker_takes, no_worker, put_in_bin, no_bin}
use Rattle.event_lists.proofs.refusals.lanes_are_judged.Goals as goal

pub returns-clause-rank : goal.returns-clause-rank
returns-clause-rank c = entered

pub returns-clause-no_rank : goal.returns-clause-no_rank
returns-clause-no_rank c = no_rank

pub returns-clause-worker : goal.returns-clause-worker
returns-clause-worker c = worker_takes

pub returns-clause-no_worker : goal.returns-clause-no_worker
returns-clause-no_worker c = no_worker

pub returns-clause-bin : goal.returns-clause-bin
returns-clause-bin c = put_in_bin

pub returns-clause-no_bin : goal.returns-clause-no_bin
returns-clause-no_bin c = no_bin
