use Rattle.tree_model.proofs.LeafLemmas.{box_sum_leaf}
use Rattle.tree_model.proofs.laws.leaves_are_constant.Goals as goal

pub returns : goal.returns
returns c = box_sum_leaf
