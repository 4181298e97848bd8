use Rattle.haar_units.proofs.StepLemmas.{sound}
use Rattle.haar_units.proofs.StartLawLemmas.{begun}
use Rattle.haar_units.proofs.laws.steps_keep_the_laws.Goals as goal

pub returns-clause-steps : goal.returns-clause-steps
returns-clause-steps c = λ job p os m. sound job p os m

pub returns-clause-starts : goal.returns-clause-starts
returns-clause-starts c = λ job command. begun job command
