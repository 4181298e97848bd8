use Rattle.std.proofs.Common.{refl}
use Rattle.job_lang.proofs.kind_examples.names.Goals as goal

pub returns-clause-names : goal.returns-clause-names
returns-clause-names c = refl

pub returns-clause-others : goal.returns-clause-others
returns-clause-others c = refl
