use Rattle.tree_model.proofs.BoundLemmas.{nodes_fit, sums_fit, inner_parts_fit}
use Rattle.haar_node.proofs.laws.numbers_fit.Goals as goal

pub returns : goal.returns
returns c = record { nodes = nodes_fit; sums = sums_fit; parts = inner_parts_fit }
