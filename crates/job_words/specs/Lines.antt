-- Lines and words of a job's text. Its lines are std's `lines`: each ends with a line feed, and one carriage return right
-- before it belongs to its end; what follows the last line feed is a line too, if it isn't empty.
use Rattle.std.specs.Prelude.{◌≡◌, ◌⊎◌, ℕ, ◌==◌, ◌&&◌, ◌||◌, nat_le, nat_lt, Bool, true, List, [], ◌∷◌, ◌++◌, length, filter, slice_index}
use Rattle.std.specs.List.{slice_split}

abbrev pub Words : Type 0
Words = List (List ℕ)

-- what ends a line that the rest of a text follows: a line feed, alone or after a carriage return; or nothing, where no rest is
abbrev pub IsLineEnd : (end rest : List ℕ) → Type 0
IsLineEnd end rest = (end ≡ 10 ∷ []) ⊎ ((end ≡ 13 ∷ 10 ∷ []) ⊎ ((end ≡ []) × (rest ≡ [])))

-- the text is a line, what ends it, and the rest
pub record IsCut (text line rest : List ℕ) : Type 0 where
  pub end : List ℕ
  pub ends : IsLineEnd end rest
  pub bytes : text ≡ line ++ end ++ rest

-- a space or a tab
abbrev pub is_blank : ℕ → Bool
is_blank byte = (byte == 32) || (byte == 9)

-- the parts of a line between blanks that aren't empty
abbrev pub words : List ℕ → List (List ℕ)
words line = filter (λ word. nat_lt 0 (length word)) (slice_split is_blank line)

-- whether a line is passed over: it has no words, or `#` is its first byte after blanks
abbrev pub is_passed_over : List (List ℕ) → Bool
is_passed_over [] = true
is_passed_over (word ∷ rest) = slice_index word 0 == 35

-- a tab, or a byte from 32 to 126
abbrev pub is_allowed : ℕ → Bool
is_allowed byte = (byte == 9) || (nat_le 32 byte && nat_le byte 126)

-- words, each after a space
abbrev pub spaced : Words → List ℕ
spaced [] = []
spaced (word ∷ rest) = 32 ∷ word ++ spaced rest

-- the words of a line with single spaces between them
abbrev pub line_of : Words → List ℕ
line_of [] = []
line_of (word ∷ rest) = word ++ spaced rest
