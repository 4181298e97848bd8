use Rattle.std.proofs.Common.{refl}
use Rattle.job_data.proofs.limit_examples.constants.Goals as goal

pub returns-clause-at : goal.returns-clause-at
returns-clause-at c = refl

pub returns-clause-above : goal.returns-clause-above
returns-clause-above c = refl

pub returns-clause-depth : goal.returns-clause-depth
returns-clause-depth c = refl
