use Rattle.tree_model.proofs.ProjectedTreeLemmas.{rows_follow_one_another}
use Rattle.tree_model.proofs.laws.rows_follow.Goals as goal

pub returns : goal.returns
returns c = rows_follow_one_another
