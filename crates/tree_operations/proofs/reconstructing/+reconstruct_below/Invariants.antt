use Rattle.std.proofs.Common.{◌-◌}
use Rattle.tree_operations.proofs.reconstructing.+reconstruct_below.Given as goal

abbrev pub decreases-reconstruct_below : goal.decreases-reconstruct_below
decreases-reconstruct_below l = 16 - l.key.level
