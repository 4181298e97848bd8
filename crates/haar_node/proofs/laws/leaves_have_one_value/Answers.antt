use Rattle.tree_model.proofs.BoxSumLemmas.{leaves_have_one_value}
use Rattle.haar_node.proofs.LeafLemmas.{leaves_give_their_values}
use Rattle.haar_node.proofs.laws.leaves_have_one_value.Goals as goal

pub returns : goal.returns
returns c = record { sum = leaves_have_one_value; value = leaves_give_their_values }
