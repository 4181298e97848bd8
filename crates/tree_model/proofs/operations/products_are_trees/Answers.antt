use Rattle.tree_model.proofs.CombinedTreeLemmas.{product_tree}
use Rattle.tree_model.proofs.operations.products_are_trees.Goals as goal

pub returns : goal.returns
returns c = product_tree
