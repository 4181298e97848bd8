use Rattle.std.proofs.Common.{◌≡◌, length}
use Rattle.rank.specs.Walks.{IsWalk}
use Rattle.rank.proofs.walk.look_for_results.Given as goal

abbrev pub invariant-loop-before : goal.invariant-loop-before
invariant-loop-before g l = record {
  walk : IsWalk (length (g.A.Facts.kinds_of l.app)) l.walk;
  all : l.walk.commands ≡ l.before-end;
  same : l.walk.commands ≡ l.fn.walk.commands;
}
