use Rattle.tree_model.proofs.StoredTreeLemmas.{leaves_within, values_dont_overflow}
use Rattle.tree_model.proofs.stored.values_show_on_leaves.Goals as goal

pub returns-clause-leaves : goal.returns-clause-leaves
returns-clause-leaves c = leaves_within

pub returns-clause-values : goal.returns-clause-values
returns-clause-values c = values_dont_overflow
