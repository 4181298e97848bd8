use Rattle.event_laws.specs.Follows.{program_from}
use Rattle.event_laws.proofs.BinContentLemmas.{lies, stays_so}
use Rattle.event_laws.proofs.receipts.entries_lie_where_they_were_put.Goals as goal

pub returns-clause-now : goal.returns-clause-now
returns-clause-now g c = λ app workers task_effects log before x r run has apart l c.
    lies (g.A.Facts.ranks_of app) workers (program_from 1 (g.A.Facts.kinds_of app) (g.A.Facts.starts_of app)) (g.A.Facts.may_do app) task_effects log before x r run has apart l c

pub returns-clause-later : goal.returns-clause-later
returns-clause-later g c = λ app stage staged workers task_effects log before x r run has c early l.
    stays_so (g.A.Facts.ranks_of app) workers (program_from 1 (g.A.Facts.kinds_of app) (g.A.Facts.starts_of app)) (g.A.Facts.may_do app) task_effects log before x r run has stage staged c early l
