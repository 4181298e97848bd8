use Rattle.tree_model.proofs.StoredTreeLemmas.{leaves_in_order, differences_in_order, leaves_at_keys}
use Rattle.tree_model.proofs.stored.kept_numbers_are_in_order.Goals as goal

pub returns-clause-leaves : goal.returns-clause-leaves
returns-clause-leaves c = leaves_in_order

pub returns-clause-differences : goal.returns-clause-differences
returns-clause-differences c = differences_in_order

pub returns-clause-keys : goal.returns-clause-keys
returns-clause-keys c = leaves_at_keys
