use Rattle.std.proofs.Common.{refl}
use Rattle.haar_node.proofs.examples.stored_nodes.Goals as goal

pub returns-clause-leaf : goal.returns-clause-leaf
returns-clause-leaf c = refl

pub returns-clause-branch : goal.returns-clause-branch
returns-clause-branch c = refl

pub returns-clause-inner : goal.returns-clause-inner
returns-clause-inner c = refl

pub returns-clause-root : goal.returns-clause-root
returns-clause-root c = refl

pub returns-clause-root_alone : goal.returns-clause-root_alone
returns-clause-root_alone c = refl

pub returns-clause-bare : goal.returns-clause-bare
returns-clause-bare c = refl

pub returns-clause-bad : goal.returns-clause-bad
returns-clause-bad c = refl
