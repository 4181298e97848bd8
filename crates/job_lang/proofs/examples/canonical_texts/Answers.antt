use Rattle.std.proofs.Common.{refl}
use Rattle.std.specs.Fmt.{digits}
use Rattle.job_lang.proofs.examples.canonical_texts.Goals as goal

pub returns : goal.returns
unfolding digits
returns c = refl
