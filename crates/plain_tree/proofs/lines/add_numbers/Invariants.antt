use Rattle.std.proofs.Common.{◌≡◌, ◌++◌}
use Rattle.std.specs.List.{flat_map}
use Rattle.plain_tree.specs.Lines.{number_line}
use Rattle.plain_tree.proofs.lines.add_numbers.Given as goal

abbrev pub invariant-loop-key : goal.invariant-loop-key
invariant-loop-key l = l.text ++ flat_map number_line l.key-iterator ≡ l.fn.text ++ flat_map number_line l.numbers.entries
