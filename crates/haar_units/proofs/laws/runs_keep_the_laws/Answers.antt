use Rattle.haar_units.proofs.ListLawLemmas.{laws_kept}
use Rattle.haar_units.proofs.laws.runs_keep_the_laws.Goals as goal

pub returns : goal.returns
returns g c = λ app job within. laws_kept (g.A.Facts.may_do app) job within
