use Rattle.std.proofs.Common.{refl}
use Rattle.std.specs.Fmt.{digits}
use Rattle.big_job.proofs.examples.largest.Goals as goal

pub returns : goal.returns
unfolding digits
returns c = refl
