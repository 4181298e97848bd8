use Rattle.event_laws.specs.Follows.{program_from}
use Rattle.event_laws.proofs.EraseLemmas.{erases_put}
use Rattle.event_laws.proofs.laws.erases_come_after_puts.Goals as goal

pub returns : goal.returns
returns g c = λ app parent home needs tree placed waits workers task_effects log run.
    erases_put (g.A.Facts.ranks_of app) workers (program_from 1 (g.A.Facts.kinds_of app) (g.A.Facts.starts_of app)) (g.A.Facts.may_do app) task_effects log run parent tree home needs placed waits
