use Rattle.std.proofs.Common.{refl}
use Rattle.job_lang.proofs.examples.plans.Goals as goal

pub returns : goal.returns
returns c = refl
