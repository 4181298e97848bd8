use Rattle.haar_visits.proofs.FormLemmas.{visited, combined}
use Rattle.haar_visits.proofs.laws.decisions_have_their_form.Goals as goal

pub returns-clause-visits : goal.returns-clause-visits
returns-clause-visits c = visited

pub returns-clause-combinations : goal.returns-clause-combinations
returns-clause-combinations c = combined
