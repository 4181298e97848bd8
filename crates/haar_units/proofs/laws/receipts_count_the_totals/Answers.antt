use Rattle.haar_units.proofs.TotalLemmas.{receipts_count}
use Rattle.haar_units.proofs.laws.receipts_count_the_totals.Goals as goal

pub returns : goal.returns
returns g c = λ app job within one root traversal bound workers task_effects log before x r run has traversals exact.
    receipts_count (g.A.Facts.may_do app) job within one root traversal bound workers task_effects log before x r run has traversals exact
