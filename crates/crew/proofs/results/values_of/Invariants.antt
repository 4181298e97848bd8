use Rattle.std.proofs.Common.{take}
use Rattle.crew.specs.Results.{AreRightValues}
use Rattle.crew.proofs.results.values_of.Given as goal

abbrev pub invariant-loop-before : goal.invariant-loop-before
invariant-loop-before g l = AreRightValues (g.A.App.right_value l.app) (g.A.App.result_of l.app) (take l.before (g.A.Facts.kinds_of l.app)) l.values.items
