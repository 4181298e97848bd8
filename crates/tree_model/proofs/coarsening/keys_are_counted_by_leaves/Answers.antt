use Rattle.tree_model.proofs.KeyCountLemmas.{keys_from_interior, keys_from_leaves}
use Rattle.tree_model.proofs.coarsening.keys_are_counted_by_leaves.Goals as goal

pub returns-clause-interior : goal.returns-clause-interior
returns-clause-interior c = keys_from_interior

pub returns-clause-leaves : goal.returns-clause-leaves
returns-clause-leaves c = keys_from_leaves
