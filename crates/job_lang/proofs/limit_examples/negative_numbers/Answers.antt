use Rattle.std.proofs.Common.{refl}
use Rattle.job_lang.proofs.limit_examples.negative_numbers.Goals as goal

pub returns : goal.returns
returns c = refl
