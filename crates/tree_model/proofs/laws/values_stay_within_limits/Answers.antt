use Rattle.tree_model.proofs.FunctionLemmas.{value_within}
use Rattle.tree_model.proofs.laws.values_stay_within_limits.Goals as goal

pub returns : goal.returns
returns c = value_within
