use Rattle.tree_model.proofs.CombinedTreeLemmas.{refined_tree}
use Rattle.tree_model.proofs.operations.refined_trees_are_trees.Goals as goal

pub returns : goal.returns
returns c = refined_tree
