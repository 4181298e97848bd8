use Rattle.haar_laws.proofs.UnitLemmas.{of_form}
use Rattle.haar_laws.proofs.laws.units_are_of_form.Goals as goal

pub returns : goal.returns
returns c = λ job u is. of_form job u is
