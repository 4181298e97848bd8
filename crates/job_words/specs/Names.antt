-- Names of trees: a lower-case letter, and then lower-case letters, digits and `_`; 1 to 16 bytes in all.
use Rattle.std.specs.Prelude.{ℕ, ◌==◌, ◌&&◌, ◌||◌, nat_le, Bool, List, length, slice_index}
use Rattle.std.specs.List.{before_first, list_all}
use Rattle.job_words.specs.Numbers.{is_digit}

abbrev pub is_letter : ℕ → Bool
is_letter byte = nat_le 97 byte && nat_le byte 122

abbrev pub is_name_byte : ℕ → Bool
is_name_byte byte = is_letter byte || (is_digit byte || (byte == 95))

abbrev pub is_name : List ℕ → Bool
is_name word = is_letter (slice_index word 0) && (nat_le (length word) 16 && list_all is_name_byte word)

-- a name is kept with zeros after it
abbrev pub is_zero : ℕ → Bool
is_zero byte = byte == 0

abbrev pub unpadded : List ℕ → List ℕ
unpadded bytes = before_first is_zero bytes
