use Rattle.event_laws.proofs.ProgramLemmas.{stages}
use Rattle.event_laws.proofs.receipts.labels_tell_the_fences_before.Goals as goal

pub returns : goal.returns
returns g c = λ app started spawned. stages (g.A.Facts.kinds_of app) (g.A.Facts.starts_of app) (g.A.Facts.may_do app) started spawned
