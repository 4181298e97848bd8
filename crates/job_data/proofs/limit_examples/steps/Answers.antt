use Rattle.std.proofs.Common.{refl}
use Rattle.job_data.proofs.limit_examples.steps.Goals as goal

pub returns-clause-at : goal.returns-clause-at
returns-clause-at c = refl

pub returns-clause-edge_above : goal.returns-clause-edge_above
returns-clause-edge_above c = refl

pub returns-clause-values_above : goal.returns-clause-values_above
returns-clause-values_above c = refl
