use Rattle.tree_model.proofs.CoarsenedTreeLemmas.{coarsened_tree, coarsened_values}
use Rattle.tree_model.proofs.coarsening.coarsened_trees_are_trees.Goals as goal

pub returns-clause-tree : goal.returns-clause-tree
returns-clause-tree c = coarsened_tree

pub returns-clause-values : goal.returns-clause-values
returns-clause-values c = coarsened_values
