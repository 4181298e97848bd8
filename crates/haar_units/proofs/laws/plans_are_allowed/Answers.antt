use Rattle.haar_units.proofs.UnitLemmas.{plans_allowed}
use Rattle.haar_units.proofs.laws.plans_are_allowed.Goals as goal

pub returns : goal.returns
returns c = λ job traversal bound traversals. plans_allowed job traversal bound traversals
