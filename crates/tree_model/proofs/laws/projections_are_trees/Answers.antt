use Rattle.tree_model.proofs.ProjectedTreeLemmas.{projected_tree}
use Rattle.tree_model.proofs.laws.projections_are_trees.Goals as goal

pub returns : goal.returns
returns c = projected_tree
