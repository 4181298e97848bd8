use Rattle.tree_model.proofs.LeafSumLemmas.{product_leaves}
use Rattle.tree_model.proofs.operations.products_on_leaves.Goals as goal

pub returns : goal.returns
returns c = product_leaves
