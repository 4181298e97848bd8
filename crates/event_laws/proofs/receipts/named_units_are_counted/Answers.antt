use Rattle.event_laws.specs.Follows.{program_from}
use Rattle.event_laws.proofs.TotalLemmas.{all_counted}
use Rattle.event_laws.proofs.receipts.named_units_are_counted.Goals as goal

pub returns : goal.returns
returns g c = λ app stage plan home us staged workers task_effects log before x r run has apart units.
    all_counted (g.A.Facts.ranks_of app) workers (program_from 1 (g.A.Facts.kinds_of app) (g.A.Facts.starts_of app)) (g.A.Facts.may_do app) task_effects log before x r run has apart stage staged plan home us units
