use Rattle.std.proofs.Common.{◌-◌}
use Rattle.tree_operations.proofs.refining.+refine_below.Given as goal

abbrev pub decreases-refine_below : goal.decreases-refine_below
decreases-refine_below l = 16 - l.key.level
