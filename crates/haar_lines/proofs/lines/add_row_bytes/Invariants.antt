use Rattle.std.proofs.Common.{◌≡◌, ◌++◌}
use Rattle.haar_lines.specs.Rows.{row_bytes}
use Rattle.haar_lines.proofs.lines.add_row_bytes.Given as goal

abbrev pub invariant-loop-piece : goal.invariant-loop-piece
invariant-loop-piece l = l.text ++ row_bytes l.piece-iterator ≡ l.fn.text ++ row_bytes l.row
