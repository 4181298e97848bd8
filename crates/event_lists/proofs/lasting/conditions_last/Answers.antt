use Rattle.event_lists.proofs.OwnLemmas.{dues_last, fences_last, readings_last}
use Rattle.event_lists.proofs.lasting.conditions_last.Goals as goal

pub returns-clause-dues : goal.returns-clause-dues
returns-clause-dues c = λ ranks workers seen log h l mine sees e allows asks. dues_last ranks workers seen log h l mine sees e allows asks

pub returns-clause-fences : goal.returns-clause-fences
returns-clause-fences c = λ ranks workers seen log h l mine sees e none asks. fences_last ranks workers seen log h l mine sees e none asks

pub returns-clause-readings : goal.returns-clause-readings
returns-clause-readings c = λ ranks workers seen log h l mine sees k f p next. readings_last ranks workers seen log h l mine sees k f p next
