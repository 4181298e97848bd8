use Rattle.event_laws.specs.Follows.{program_from}
use Rattle.event_laws.proofs.ParcelLemmas.{handed_on}
use Rattle.event_laws.proofs.SettledFenceLemmas.{legal_now, quiet_now, task_done, start_done, spawn_done}
use Rattle.event_laws.proofs.receipts.all_before_the_fence_is_done.Goals as goal

pub returns-clause-tasks : goal.returns-clause-tasks
returns-clause-tasks g c = λ app workers task_effects log before x r run has rank number t s.
    let d = task_done (g.A.Facts.ranks_of app) workers (program_from 1 (g.A.Facts.kinds_of app) (g.A.Facts.starts_of app)) (g.A.Facts.may_do app) task_effects log before x r run has rank number t s in (d.0, d.1)

pub returns-clause-messages : goal.returns-clause-messages
returns-clause-messages g c = λ app workers task_effects log before x r run has rank number to p s.
    let quiet = quiet_now (g.A.Facts.ranks_of app) workers (program_from 1 (g.A.Facts.kinds_of app) (g.A.Facts.starts_of app)) (g.A.Facts.may_do app) task_effects log before x r run has in
    handed_on (g.A.Facts.ranks_of app) workers before (legal_now (g.A.Facts.ranks_of app) workers (program_from 1 (g.A.Facts.kinds_of app) (g.A.Facts.starts_of app)) (g.A.Facts.may_do app) task_effects log before x r run has) quiet.messages rank number to p s

pub returns-clause-starts : goal.returns-clause-starts
returns-clause-starts g c = λ app workers task_effects log before x r run has k u d ns home at lt.
    start_done (g.A.Facts.ranks_of app) workers (program_from 1 (g.A.Facts.kinds_of app) (g.A.Facts.starts_of app)) (g.A.Facts.may_do app) task_effects log before x r run has k u d ns home at lt

pub returns-clause-spawns : goal.returns-clause-spawns
returns-clause-spawns g c = λ app workers task_effects log before x r run has rank p os done i u d ns home at.
    spawn_done (g.A.Facts.ranks_of app) workers (program_from 1 (g.A.Facts.kinds_of app) (g.A.Facts.starts_of app)) (g.A.Facts.may_do app) task_effects log before x r run has rank p os done i u d ns home at
