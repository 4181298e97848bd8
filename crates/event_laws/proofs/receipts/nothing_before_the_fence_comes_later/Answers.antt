use Rattle.event_laws.specs.Follows.{program_from}
use Rattle.event_laws.proofs.SettledFenceLemmas.{early_task}
use Rattle.event_laws.proofs.UnitLemmas.{comes_early}
use Rattle.event_laws.proofs.receipts.nothing_before_the_fence_comes_later.Goals as goal

pub returns-clause-later : goal.returns-clause-later
returns-clause-later g c = λ app stage staged workers task_effects log before x r run has rank number t s lt.
    early_task (g.A.Facts.ranks_of app) workers (program_from 1 (g.A.Facts.kinds_of app) (g.A.Facts.starts_of app)) (g.A.Facts.may_do app) task_effects log before x r run has stage staged rank number t s lt

pub returns-clause-earlier : goal.returns-clause-earlier
returns-clause-earlier g c = λ app stage staged workers task_effects log before x r run has rank number t s.
    comes_early (g.A.Facts.ranks_of app) workers (program_from 1 (g.A.Facts.kinds_of app) (g.A.Facts.starts_of app)) (g.A.Facts.may_do app) task_effects log before x r run has stage staged rank number t s
