use Rattle.tree_totals.proofs.TotalLemmas.{visits_are}
use Rattle.tree_totals.proofs.total.Total.of_visits.Goals as goal

pub returns-clause-total : goal.returns-clause-total
returns-clause-total c = λ d depth shape is counts. visits_are d depth shape c.args.count is counts
