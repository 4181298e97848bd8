use Rattle.tree_model.proofs.LeafSumLemmas.{overflow_leaves}
use Rattle.tree_model.proofs.operations.overflows_show_on_leaves.Goals as goal

pub returns : goal.returns
returns c = overflow_leaves
