use Rattle.haar_right.proofs.VisitLemmas.{visits_right}
use Rattle.haar_right.proofs.laws.visits_are_right.Goals as goal

pub returns : goal.returns
returns c = visits_right
