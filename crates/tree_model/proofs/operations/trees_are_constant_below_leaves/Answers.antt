use Rattle.tree_model.proofs.BelowLeafLemmas.{constant_below}
use Rattle.tree_model.proofs.operations.trees_are_constant_below_leaves.Goals as goal

pub returns : goal.returns
returns c = constant_below
