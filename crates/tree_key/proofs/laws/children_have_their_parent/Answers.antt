use Rattle.tree_key.proofs.FamilyLemmas.{parent_of_child, child_of_parent, ancestor_of_child, ancestor_of_ancestor}
use Rattle.tree_key.proofs.laws.children_have_their_parent.Goals as goal

pub returns-clause-parent : goal.returns-clause-parent
returns-clause-parent _ = parent_of_child

pub returns-clause-child : goal.returns-clause-child
returns-clause-child _ = child_of_parent

pub returns-clause-above : goal.returns-clause-above
returns-clause-above _ = ancestor_of_child

pub returns-clause-further : goal.returns-clause-further
returns-clause-further _ = ancestor_of_ancestor
