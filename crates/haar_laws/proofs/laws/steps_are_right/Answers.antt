use Rattle.haar_laws.proofs.RightLemmas.{steps_right}
use Rattle.haar_laws.proofs.TotalLemmas.{totals_right}
use Rattle.haar_laws.proofs.laws.steps_are_right.Goals as goal

pub returns-clause-totals : goal.returns-clause-totals
returns-clause-totals c = λ job command ranks given planned is inputs. totals_right job command ranks given planned is inputs

pub returns-clause-steps : goal.returns-clause-steps
returns-clause-steps c = λ job u given planned is inputs. steps_right job u given planned is inputs
