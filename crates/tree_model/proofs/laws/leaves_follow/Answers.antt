use Rattle.tree_model.proofs.ProjectedTreeLemmas.{leaves_follow_rows}
use Rattle.tree_model.proofs.laws.leaves_follow.Goals as goal

pub returns : goal.returns
returns c = leaves_follow_rows
