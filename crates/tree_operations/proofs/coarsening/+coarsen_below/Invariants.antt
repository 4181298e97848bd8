use Rattle.std.proofs.Common.{◌-◌}
use Rattle.tree_operations.proofs.coarsening.+coarsen_below.Given as goal

abbrev pub decreases-coarsen_below : goal.decreases-coarsen_below
decreases-coarsen_below l = 16 - l.key.level
