use Rattle.tree_model.proofs.CoarsenedTreeLemmas.{coarsened_least}
use Rattle.tree_model.proofs.coarsening.coarsened_trees_are_least.Goals as goal

pub returns : goal.returns
returns c = coarsened_least
