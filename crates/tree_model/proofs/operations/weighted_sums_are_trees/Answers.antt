use Rattle.tree_model.proofs.CombinedTreeLemmas.{weighted_sum_tree}
use Rattle.tree_model.proofs.operations.weighted_sums_are_trees.Goals as goal

pub returns : goal.returns
returns c = weighted_sum_tree
