use Rattle.tree_model.proofs.CoarsenedTreeLemmas.{coarsened_children, coarsened_leaves}
use Rattle.tree_model.proofs.coarsening.coarsened_leaves_are_constant.Goals as goal

pub returns-clause-children : goal.returns-clause-children
returns-clause-children c = coarsened_children

pub returns-clause-leaves : goal.returns-clause-leaves
returns-clause-leaves c = coarsened_leaves
