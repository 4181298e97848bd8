use Rattle.event_laws.specs.Follows.{program_from}
use Rattle.event_laws.proofs.BringerLemmas.{one_bringer}
use Rattle.event_laws.proofs.laws.a_label_has_one_bringer.Goals as goal

pub returns : goal.returns
returns g c = λ app parent raiser dues tree up workers task_effects log run.
    one_bringer (g.A.Facts.ranks_of app) workers (program_from 1 (g.A.Facts.kinds_of app) (g.A.Facts.starts_of app)) (g.A.Facts.may_do app) task_effects log run raiser dues up parent tree
