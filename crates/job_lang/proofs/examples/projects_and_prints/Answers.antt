use Rattle.std.proofs.Common.{refl}
use Rattle.job_lang.proofs.examples.projects_and_prints.Goals as goal

pub returns : goal.returns
returns c = refl
