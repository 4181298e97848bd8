use Rattle.std.proofs.Common.{refl}
use Rattle.haar_node.proofs.examples.reconstructed_nodes.Goals as goal

pub returns-clause-leaf : goal.returns-clause-leaf
returns-clause-leaf c = refl

pub returns-clause-cell : goal.returns-clause-cell
returns-clause-cell c = refl

pub returns-clause-branch : goal.returns-clause-branch
returns-clause-branch c = refl

pub returns-clause-root : goal.returns-clause-root
returns-clause-root c = refl

pub returns-clause-below : goal.returns-clause-below
returns-clause-below c = refl

pub returns-clause-root_alone : goal.returns-clause-root_alone
returns-clause-root_alone c = refl
