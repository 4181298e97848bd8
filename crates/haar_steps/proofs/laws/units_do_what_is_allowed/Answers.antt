use Rattle.haar_steps.proofs.AllowedLemmas.{allowed, starts_told}
use Rattle.haar_steps.proofs.AppLemmas.{keeps}
use Rattle.haar_steps.proofs.laws.units_do_what_is_allowed.Goals as goal

pub returns-clause-steps : goal.returns-clause-steps
returns-clause-steps c = λ depth ops owners made ranks u given deep count form. allowed depth ops owners made ranks u given deep count form

pub returns-clause-laws : goal.returns-clause-laws
returns-clause-laws c = λ depth ops owners made ranks u given deep count form. keeps depth ops owners made ranks deep count u given form

pub returns-clause-starts : goal.returns-clause-starts
returns-clause-starts c = λ ops owners ranks command count. starts_told ops owners ranks command count
