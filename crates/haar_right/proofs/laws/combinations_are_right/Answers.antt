use Rattle.haar_right.proofs.VisitLemmas.{combinations_right}
use Rattle.haar_right.proofs.laws.combinations_are_right.Goals as goal

pub returns : goal.returns
returns c = combinations_right
