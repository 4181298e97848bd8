use Rattle.std.proofs.Common.{◌-◌}
use Rattle.tree_operations.proofs.adding.Addends.+add_below.Given as goal

abbrev pub decreases-add_below : goal.decreases-add_below
decreases-add_below l = 16 - l.key.level
