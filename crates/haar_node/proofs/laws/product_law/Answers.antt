use Rattle.tree_model.proofs.InnerProductLemmas.{product_law}
use Rattle.haar_node.proofs.laws.product_law.Goals as goal

pub returns : goal.returns
returns c = product_law
