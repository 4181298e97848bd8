use Rattle.std.proofs.Common.{refl}
use Rattle.job_data.proofs.limit_examples.factors.Goals as goal

pub returns-clause-at : goal.returns-clause-at
returns-clause-at c = refl

pub returns-clause-left_above : goal.returns-clause-left_above
returns-clause-left_above c = refl

pub returns-clause-right_above : goal.returns-clause-right_above
returns-clause-right_above c = refl
