use Rattle.std.proofs.Common.{◌≡◌, ◌+◌, ◌≤◌, length}
use Rattle.haar_lines.specs.Rows.{rows_put, beside}
use Rattle.haar_lines.proofs.lines.put_beside.Given as goal

abbrev pub invariant-loop-other : goal.invariant-loop-other
invariant-loop-other l = record {
  all : rows_put l.rows.items l.at l.left.items ≡ beside l.fn.rows.items l.fn.others.items;
  count : l.at + length l.left.items ≡ length l.fn.others.items;
}

abbrev pub decreases-loop-other : goal.decreases-loop-other
decreases-loop-other l = length l.left.items
