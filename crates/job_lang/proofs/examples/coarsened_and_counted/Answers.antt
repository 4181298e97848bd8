use Rattle.std.proofs.Common.{refl}
use Rattle.job_lang.proofs.examples.coarsened_and_counted.Goals as goal

pub returns-clause-counted : goal.returns-clause-counted
returns-clause-counted c = refl

pub returns-clause-before_a_fence : goal.returns-clause-before_a_fence
returns-clause-before_a_fence c = refl

pub returns-clause-coarsened_in_compressed_form : goal.returns-clause-coarsened_in_compressed_form
returns-clause-coarsened_in_compressed_form c = refl

pub returns-clause-words : goal.returns-clause-words
returns-clause-words c = refl
