-- Numbers of a job's text: an optional minus, and 1 to 18 decimal digits.
use Rattle.std.specs.Prelude.{ℕ, ◌==◌, ◌&&◌, nat_lt, nat_le, Bool, List, [], ◌∷◌, length, Option, Some, None, ℤ, pos, neg_ℤ, if◌then◌else◌}
use Rattle.std.specs.List.{list_all}
use Rattle.std.specs.Option.{option_map}
use Rattle.std.specs.Str.Parse.{digits_value}

abbrev pub is_digit : ℕ → Bool
is_digit byte = nat_le 48 byte && nat_le byte 57

-- 1 to 18 digits
abbrev pub are_digits : List ℕ → Bool
are_digits word = nat_lt 0 (length word) && (nat_le (length word) 18 && list_all is_digit word)

-- the number that 1 to 18 digits write
abbrev pub size_of_digits : List ℕ → Option ℕ
size_of_digits word = if are_digits word then Some (digits_value 10 word) else None

-- a size with its sign
abbrev pub signed : Bool → ℕ → ℤ
signed is_negative size = if is_negative then neg_ℤ (pos size) else pos size

-- the number that a word writes
abbrev pub number : List ℕ → Option ℤ
number [] = None
number (byte ∷ rest) = option_map (signed (byte == 45)) (size_of_digits (if byte == 45 then rest else byte ∷ rest))
