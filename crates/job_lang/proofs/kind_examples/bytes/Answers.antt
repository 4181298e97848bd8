use Rattle.std.proofs.Common.{refl}
use Rattle.job_lang.proofs.kind_examples.bytes.Goals as goal

pub returns-clause-allowed : goal.returns-clause-allowed
returns-clause-allowed c = refl

pub returns-clause-others : goal.returns-clause-others
returns-clause-others c = refl
