use Rattle.std.proofs.Common.{refl}
use Rattle.job_data.proofs.limit_examples.boxes.Goals as goal

pub returns-clause-at : goal.returns-clause-at
returns-clause-at c = refl

pub returns-clause-edges_above : goal.returns-clause-edges_above
returns-clause-edges_above c = refl

pub returns-clause-values_above : goal.returns-clause-values_above
returns-clause-values_above c = refl
