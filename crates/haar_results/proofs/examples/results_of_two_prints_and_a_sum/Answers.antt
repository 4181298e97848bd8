use Rattle.std.proofs.Common.{refl}
use Rattle.std.specs.Fmt.{digits}
use Rattle.haar_results.proofs.examples.results_of_two_prints_and_a_sum.Goals as goal

pub returns-clause-whole : goal.returns-clause-whole
unfolding digits
returns-clause-whole c = refl

pub returns-clause-job : goal.returns-clause-job
unfolding digits
returns-clause-job c = refl
