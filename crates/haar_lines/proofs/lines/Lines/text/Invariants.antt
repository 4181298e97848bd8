use Rattle.std.proofs.Common.{◌≡◌, take}
use Rattle.std.specs.List.{flat_map}
use Rattle.haar_lines.specs.Rows.{row_bytes}
use Rattle.haar_lines.proofs.lines.Lines.text.Given as goal

abbrev pub invariant-loop-row : goal.invariant-loop-row
invariant-loop-row l = l.text ≡ flat_map row_bytes (take l.row-index l.row-items)
