use Rattle.event_laws.specs.Follows.{program_from}
use Rattle.event_laws.proofs.LateWriteLemmas.{none_later}
use Rattle.event_laws.proofs.receipts.nothing_is_written_after_the_fence.Goals as goal

pub returns : goal.returns
returns g c = λ app stage staged workers task_effects log x run entry event fence received before.
    none_later (g.A.Facts.ranks_of app) workers (program_from 1 (g.A.Facts.kinds_of app) (g.A.Facts.starts_of app)) (g.A.Facts.may_do app) task_effects log x run entry stage staged event fence received before
