use Rattle.tree_model.proofs.BoxSumLemmas.{box_sum_children}
use Rattle.haar_node.proofs.laws.sums_split.Goals as goal

pub returns : goal.returns
returns c = box_sum_children
