use Rattle.std.proofs.Common.{refl}
use Rattle.std.specs.Fmt.{digits}
use Rattle.haar_results.proofs.examples.values_have_lines.Goals as goal

pub returns-clause-inner : goal.returns-clause-inner
unfolding digits
returns-clause-inner c = refl

pub returns-clause-size : goal.returns-clause-size
unfolding digits
returns-clause-size c = refl
