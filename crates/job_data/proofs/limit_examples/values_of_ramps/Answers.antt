use Rattle.std.proofs.Common.{refl}
use Rattle.job_data.proofs.limit_examples.values_of_ramps.Goals as goal

pub returns-clause-at : goal.returns-clause-at
returns-clause-at c = refl

pub returns-clause-above : goal.returns-clause-above
returns-clause-above c = refl
