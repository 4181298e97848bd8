use Rattle.tree_totals.proofs.TotalLemmas.{coarsening_is, fewer}
use Rattle.tree_totals.proofs.total.Total.of_coarsening.Goals as goal

pub overflow_sub-result : goal.overflow_sub-result
overflow_sub-result c = (fewer c.requires.0 c.requires.1 c.args.before c.args.after c.requires.2 c.requires.3 c.requires.4).1

pub overflow_sub-result-2 : goal.overflow_sub-result-2
overflow_sub-result-2 c = (fewer c.requires.0 c.requires.1 c.args.before c.args.after c.requires.2 c.requires.3 c.requires.4).0

pub returns-clause-total : goal.returns-clause-total
returns-clause-total c = λ d t tree old new. coarsening_is d t c.args.before c.args.after tree old new
