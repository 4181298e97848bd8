use Rattle.event_laws.specs.Follows.{program_from}
use Rattle.event_laws.proofs.SpawnLemmas.{same_task}
use Rattle.event_laws.proofs.SourceLemmas.{apart}
use Rattle.event_laws.proofs.laws.spawns_of_a_tree_are_apart.Goals as goal

pub returns-clause-spawns : goal.returns-clause-spawns
returns-clause-spawns g c = λ app parent tree workers task_effects log run.
    apart (g.A.Facts.ranks_of app) workers (program_from 1 (g.A.Facts.kinds_of app) (g.A.Facts.starts_of app)) (g.A.Facts.may_do app) task_effects log run parent tree

pub returns-clause-tasks : goal.returns-clause-tasks
returns-clause-tasks g c = λ app parent tree workers task_effects log run r n q m t u a b same.
    same_task (g.A.Facts.ranks_of app) workers log run.legal
    (apart (g.A.Facts.ranks_of app) workers (program_from 1 (g.A.Facts.kinds_of app) (g.A.Facts.starts_of app)) (g.A.Facts.may_do app) task_effects log run parent tree)
    r n q m t u a b same
