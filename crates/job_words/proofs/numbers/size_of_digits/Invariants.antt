use Rattle.std.proofs.Common.{◌≡◌, ◌<◌, ◌^◌, drop}
use Rattle.std.specs.List.{list_all}
use Rattle.std.specs.Str.Parse.{digits_value, digits_value_after}
use Rattle.job_words.specs.Numbers.{is_digit}
use Rattle.job_words.proofs.numbers.size_of_digits.Given as goal

abbrev pub invariant-loop-byte : goal.invariant-loop-byte
invariant-loop-byte l = record {
  so_far : digits_value_after 10 l.value (drop l.byte-index l.word) ≡ digits_value 10 l.word;
  digits : list_all is_digit (drop l.byte-index l.word) ≡ list_all is_digit l.word;
  small : l.value < 10 ^ l.byte-index;
}
