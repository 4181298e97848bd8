use Rattle.std.proofs.Common.{refl}
use Rattle.job_data.proofs.limit_examples.trees.Goals as goal

pub returns-clause-last : goal.returns-clause-last
returns-clause-last c = refl

pub returns-clause-above : goal.returns-clause-above
returns-clause-above c = refl

pub returns-clause-again : goal.returns-clause-again
returns-clause-again c = refl

pub returns-clause-coarsened : goal.returns-clause-coarsened
returns-clause-coarsened c = refl

pub returns-clause-counted : goal.returns-clause-counted
returns-clause-counted c = refl
