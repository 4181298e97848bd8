use Rattle.haar_lists.proofs.JobLemmas.{units_allowed}
use Rattle.haar_lists.proofs.laws.units_are_allowed.Goals as goal

pub returns : goal.returns
returns c = λ job planned. units_allowed job planned
