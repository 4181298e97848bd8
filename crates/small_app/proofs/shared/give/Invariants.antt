use Rattle.std.proofs.Common.{length}
use Rattle.std.specs.List.{AllByRecursion}
use Rattle.app_core.specs.Effects.{IsRightEffect}
use Rattle.small_app.proofs.shared.give.Given as goal

abbrev pub invariant-loop-effect : goal.invariant-loop-effect
invariant-loop-effect g l = AllByRecursion (IsRightEffect (g.A.App.right_value l.app) (g.A.App.right_cell l.app) (g.A.App.is_unit l.app)) l.effects

abbrev pub decreases-loop-effect : goal.decreases-loop-effect
decreases-loop-effect g l = length l.effects
