use Rattle.std.proofs.Common.{refl}
use Rattle.std.specs.Fmt.{digits}
use Rattle.haar_results.proofs.examples.results_of_two_prints.Goals as goal

pub returns-clause-job : goal.returns-clause-job
unfolding digits
returns-clause-job c = refl
