use Rattle.tree_model.proofs.StoredTreeLemmas.{whole_boxes_are_even, whole_boxes_of_one_value}
use Rattle.tree_model.proofs.stored.whole_boxes_have_one_value.Goals as goal

pub returns-clause-even : goal.returns-clause-even
returns-clause-even c = whole_boxes_are_even

pub returns-clause-sum : goal.returns-clause-sum
returns-clause-sum c = whole_boxes_of_one_value
