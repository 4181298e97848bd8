use Rattle.std.proofs.Common.{◌≡◌, ◌≤◌, true, length}
use Rattle.haar_base.specs.Operations.{are_within}
use Rattle.haar_app.specs.KeptPlans.{ArePlans}
use Rattle.haar_app.proofs.planning.operations_of.Given as goal

abbrev pub invariant-loop-index : goal.invariant-loop-index
invariant-loop-index l = record {
  within : are_within l.job.depth l.operations.items ≡ true;
  count : length l.operations.items ≡ l.index;
  few : length l.operations.items ≤ 512;
  plans : ArePlans l.job.commands l.operations.items;
}
