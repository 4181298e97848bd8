use Rattle.haar_steps.proofs.StepLemmas.{homes, due}
use Rattle.haar_steps.proofs.AppLemmas.{label_tells}
use Rattle.haar_steps.proofs.laws.labels_and_homes.Goals as goal

pub returns-clause-homes : goal.returns-clause-homes
returns-clause-homes c = λ owners u ranks least. homes owners u ranks least

pub returns-clause-dues : goal.returns-clause-dues
returns-clause-dues c = λ u other same. due u other same

pub returns-clause-labels : goal.returns-clause-labels
returns-clause-labels c = λ depth ops owners made ranks u other deep count form more same. label_tells depth ops owners made ranks deep count u other form more same
