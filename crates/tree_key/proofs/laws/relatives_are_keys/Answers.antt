use Rattle.tree_key.proofs.FamilyLemmas.{child_is_key, parent_is_key, ancestor_is_key}
use Rattle.tree_key.proofs.laws.relatives_are_keys.Goals as goal

pub returns-clause-child : goal.returns-clause-child
returns-clause-child _ = child_is_key

pub returns-clause-parent : goal.returns-clause-parent
returns-clause-parent _ = parent_is_key

pub returns-clause-ancestor : goal.returns-clause-ancestor
returns-clause-ancestor _ = ancestor_is_key
