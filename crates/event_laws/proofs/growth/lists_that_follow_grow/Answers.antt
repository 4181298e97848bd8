use Rattle.std.proofs.Common.{refl}
use Rattle.event_laws.proofs.GrowingRunLemmas.{one_more_follows, more_follow, carried_is_begun}
use Rattle.event_laws.proofs.growth.lists_that_follow_grow.Goals as goal

pub returns-clause-event : goal.returns-clause-event
returns-clause-event g c = λ app program task_effects log x goes follows. one_more_follows program (g.A.Facts.may_do app) task_effects log x _ refl goes follows

pub returns-clause-tasks : goal.returns-clause-tasks
returns-clause-tasks g c = more_follow

pub returns-clause-begun : goal.returns-clause-begun
returns-clause-begun g c = carried_is_begun
