use Rattle.std.proofs.Common.{refl}
use Rattle.job_data.proofs.limit_examples.levels_and_tolerances.Goals as goal

pub returns-clause-at : goal.returns-clause-at
returns-clause-at c = refl

pub returns-clause-level_above : goal.returns-clause-level_above
returns-clause-level_above c = refl

pub returns-clause-tolerance_above : goal.returns-clause-tolerance_above
returns-clause-tolerance_above c = refl

pub returns-clause-refined_above : goal.returns-clause-refined_above
returns-clause-refined_above c = refl
