use Rattle.haar_laws.proofs.StartLemmas.{starts_right}
use Rattle.haar_laws.proofs.laws.starts_are_right.Goals as goal

pub returns : goal.returns
returns c = λ job command planned. starts_right job command planned
