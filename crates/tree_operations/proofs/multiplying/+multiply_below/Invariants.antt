use Rattle.std.proofs.Common.{◌-◌}
use Rattle.tree_operations.proofs.multiplying.+multiply_below.Given as goal

abbrev pub decreases-multiply_below : goal.decreases-multiply_below
decreases-multiply_below l = 16 - l.key.level
