use Rattle.std.proofs.Common.{refl}
use Rattle.job_lang.proofs.kind_examples.sizes.Goals as goal

pub returns-clause-before : goal.returns-clause-before
returns-clause-before c = refl

pub returns-clause-after : goal.returns-clause-after
returns-clause-after c = refl

pub returns-clause-written : goal.returns-clause-written
returns-clause-written c = refl
