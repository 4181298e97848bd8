use Rattle.std.proofs.Common.{◌≤◌, length}
use Rattle.task_tables.proofs.task.count_reads.Given as goal

abbrev pub invariant-loop-index : goal.invariant-loop-index
invariant-loop-index g l = l.index ≤ length (g.A.App.reads_of l.app l.unit)
