use Rattle.std.proofs.Common.{refl}
use Rattle.job_lang.proofs.kind_examples.one_kind_before_another.Goals as goal

pub returns : goal.returns
returns c = refl
