use Rattle.tree_model.proofs.InnerProductLemmas.{inner_parts_follow}
use Rattle.haar_node.proofs.laws.inner_parts_follow.Goals as goal

pub returns : goal.returns
returns c = inner_parts_follow
