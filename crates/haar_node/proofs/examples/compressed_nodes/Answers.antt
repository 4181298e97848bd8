use Rattle.std.proofs.Common.{refl}
use Rattle.haar_node.proofs.examples.compressed_nodes.Goals as goal

pub returns-clause-root : goal.returns-clause-root
returns-clause-root c = refl

pub returns-clause-root_alone : goal.returns-clause-root_alone
returns-clause-root_alone c = refl

pub returns-clause-inner : goal.returns-clause-inner
returns-clause-inner c = refl

pub returns-clause-leaf : goal.returns-clause-leaf
returns-clause-leaf c = refl

pub returns-clause-at_root : goal.returns-clause-at_root
returns-clause-at_root c = refl

pub returns-clause-below_root : goal.returns-clause-below_root
returns-clause-below_root c = refl

pub returns-clause-cell : goal.returns-clause-cell
returns-clause-cell c = refl
