use Rattle.haar_units.proofs.LabelTreeLemmas.{tree, staged}
use Rattle.haar_units.proofs.FutureLemmas.{futures, places}
use Rattle.haar_units.proofs.laws.labels_determine_units.Goals as goal

pub returns-clause-tree : goal.returns-clause-tree
returns-clause-tree g c = λ app job within. tree job (g.A.Facts.may_do app) within

pub returns-clause-futures : goal.returns-clause-futures
returns-clause-futures g c = λ app job within. futures job (g.A.Facts.may_do app) within

pub returns-clause-places : goal.returns-clause-places
returns-clause-places g c = λ app job within. places job (g.A.Facts.may_do app) within

pub returns-clause-stages : goal.returns-clause-stages
returns-clause-stages g c = λ app job within. staged job (g.A.Facts.may_do app) within
