use Rattle.std.proofs.Common.{◌≡◌, codes, drop, string_bytes}
use Rattle.std.specs.List.{list_any}
use Rattle.std.specs.Str.{bytes_eq}
use Rattle.command_line.proofs.parsing.has_end_of_options.Given as goal

abbrev pub invariant-loop-word : goal.invariant-loop-word
invariant-loop-word l = list_any (λ w. bytes_eq (string_bytes w) (codes "--")) (drop l.word-index l.words) ≡ list_any (λ w. bytes_eq (string_bytes w) (codes "--")) l.words
