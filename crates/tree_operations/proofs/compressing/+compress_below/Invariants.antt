use Rattle.std.proofs.Common.{◌-◌}
use Rattle.tree_operations.proofs.compressing.+compress_below.Given as goal

abbrev pub decreases-compress_below : goal.decreases-compress_below
decreases-compress_below l = 16 - l.key.level
