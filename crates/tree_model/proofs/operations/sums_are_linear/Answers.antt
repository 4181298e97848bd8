use Rattle.tree_model.proofs.CombinedSumLemmas.{sums_linear}
use Rattle.tree_model.proofs.operations.sums_are_linear.Goals as goal

pub returns : goal.returns
returns c = sums_linear
