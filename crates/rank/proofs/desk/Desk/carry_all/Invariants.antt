use Rattle.std.proofs.Common.{length}
use Rattle.std.specs.List.{AllByRecursion}
use Rattle.app_core.specs.Effects.{IsRightEffect, IsSpawnedWithNeeds}
use Rattle.rank.proofs.desk.Desk.carry_all.Given as goal

abbrev pub invariant-loop-effect : goal.invariant-loop-effect
invariant-loop-effect g l = record {
  right : AllByRecursion (IsRightEffect (g.A.App.right_value l.app) (g.A.App.right_cell l.app) (g.A.App.is_unit l.app)) l.effects;
  needs : AllByRecursion (IsSpawnedWithNeeds (g.A.App.needs_of l.app)) l.effects;
}

abbrev pub decreases-loop-effect : goal.decreases-loop-effect
decreases-loop-effect g l = length l.effects
