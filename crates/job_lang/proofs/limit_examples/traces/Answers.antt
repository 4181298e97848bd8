use Rattle.std.proofs.Common.{refl}
use Rattle.job_lang.proofs.limit_examples.traces.Goals as goal

pub returns-clause-at : goal.returns-clause-at
returns-clause-at c = refl

pub returns-clause-depth : goal.returns-clause-depth
returns-clause-depth c = refl

pub returns-clause-commands : goal.returns-clause-commands
returns-clause-commands c = refl
