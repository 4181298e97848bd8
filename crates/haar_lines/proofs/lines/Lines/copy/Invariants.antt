use Rattle.std.proofs.Common.{◌≡◌, take, map}
use Rattle.haar_lines.specs.Rows.{row_bytes}
use Rattle.haar_lines.proofs.lines.Lines.copy.Given as goal

abbrev pub invariant-loop-row : goal.invariant-loop-row
invariant-loop-row l = map row_bytes l.rows.items ≡ map row_bytes (take l.row-index l.row-items)
