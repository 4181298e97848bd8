use Rattle.event_laws.specs.Follows.{program_from}
use Rattle.event_laws.proofs.BringerLemmas.{effects_apart}
use Rattle.event_laws.proofs.laws.effects_on_entries_are_apart.Goals as goal

pub returns : goal.returns
returns g c = λ app parent f tree once workers task_effects log run.
    effects_apart (g.A.Facts.ranks_of app) workers (program_from 1 (g.A.Facts.kinds_of app) (g.A.Facts.starts_of app)) (g.A.Facts.may_do app) task_effects log run parent tree f once
