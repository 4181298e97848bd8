use Rattle.tree_key.proofs.OrderLemmas.{keys_total, order_tells_apart}
use Rattle.tree_key.proofs.laws.keys_are_in_total_order.Goals as goal

pub returns-clause-total : goal.returns-clause-total
returns-clause-total _ = keys_total

pub returns-clause-apart : goal.returns-clause-apart
returns-clause-apart _ = order_tells_apart
