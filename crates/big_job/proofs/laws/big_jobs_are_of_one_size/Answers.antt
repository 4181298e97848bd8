use Rattle.std.proofs.Common.{refl}
use Rattle.big_job.proofs.laws.big_jobs_are_of_one_size.Goals as goal

pub returns-clause-commands : goal.returns-clause-commands
returns-clause-commands c = λ number. refl

pub returns-clause-trees : goal.returns-clause-trees
returns-clause-trees c = λ number. refl
