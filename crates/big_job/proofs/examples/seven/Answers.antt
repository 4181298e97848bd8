use Rattle.std.proofs.Common.{refl}
use Rattle.std.specs.Fmt.{digits}
use Rattle.big_job.proofs.examples.seven.Goals as goal

pub returns-clause-job : goal.returns-clause-job
returns-clause-job c = refl

pub returns-clause-text : goal.returns-clause-text
unfolding digits
returns-clause-text c = refl
