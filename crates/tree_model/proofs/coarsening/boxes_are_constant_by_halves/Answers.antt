use Rattle.tree_model.proofs.ConstantBoxLemmas.{whole_boxes_are_constant, constant_from_halves}
use Rattle.tree_model.proofs.coarsening.boxes_are_constant_by_halves.Goals as goal

pub returns-clause-whole : goal.returns-clause-whole
returns-clause-whole c = whole_boxes_are_constant

pub returns-clause-halves : goal.returns-clause-halves
returns-clause-halves c = constant_from_halves
