use Rattle.std.proofs.Common.{◌-◌}
use Rattle.tree_operations.proofs.inner_products.+inner_below.Given as goal

abbrev pub decreases-inner_below : goal.decreases-inner_below
decreases-inner_below l = 16 - l.key.level
