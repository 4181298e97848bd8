-- Lemmas that crates above use: words of printable bytes, on lines with single spaces.
use Rattle.std.proofs.Common.{◌≡◌, ℕ, zero, suc, ◌+◌, ◌<◌, ◌≤◌, ◌-◌, ◌^◌, Bool, true, false, List, [], ◌∷◌, ◌++◌, length, get_or, refl, sym, ◌∙◌, ap, subst, arith, append-nil, ◌%◌, ℤ, pos, negsuc, lit<, lit≤}
use Rattle.std.specs.Prelude.{All, ◌==◌, ◌&&◌, ◌||◌, nat_lt, nat_le, filter, decimal, slice_index, Some}
use Rattle.std.specs.Fmt.{signed_decimal}
use Rattle.std.specs.Int.RustNames.{unsigned_abs}
use Rattle.std.specs.List.{list_all, slice_split}
use Rattle.std.specs.Option.{option_map}
use Rattle.std.specs.Str.Lines.{lines, lines_of_parts, strip_carriage_return}
use Rattle.std.proofs.lemmas.Bool.{and_parts, ne_eqb}
use Rattle.std.proofs.lemmas.Bool.Decides.{nat_tests}
use Rattle.std.proofs.lemmas.Fmt.{decimal_by_steps, decimal_is_IsNumeral, decimal_nonempty, length-decimal-le}
use Rattle.std.proofs.lemmas.List.Folds.{list_all-append}
use Rattle.std.proofs.lemmas.List.Splits.{slice_split_at, slice_split_none, length-slice_split}
use Rattle.job_words.specs.Lines.{Words, is_allowed, is_blank, line_of, spaced, words}
use Rattle.job_words.specs.Names.{is_name, is_letter, is_name_byte}
use Rattle.job_words.specs.Numbers.{is_digit, are_digits, size_of_digits, number, signed}
use Rattle.job_words.proofs.LineLemmas.{one_more}

-- a byte that prints and is no space, and one that may be a space
abbrev is_graphic : ℕ → Bool
is_graphic byte = nat_le 33 byte && nat_le byte 126

abbrev is_printable : ℕ → Bool
is_printable byte = nat_le 32 byte && nat_le byte 126

-- a word of such bytes
pub record IsWord (word : List ℕ) : Type 0 where
  pub some : nat_lt 0 (length word) ≡ true
  pub graphic : list_all is_graphic word ≡ true

abbrev pub AreWords : Words → Type 0
AreWords [] = Unit {0}
AreWords (word ∷ rest) = IsWord word × AreWords rest

weaker : (p q : ℕ → Bool) → ((b : ℕ) → p b ≡ true → q b ≡ true) → (xs : List ℕ) → list_all p xs ≡ true → list_all q xs ≡ true
weaker p q from [] all = refl
weaker p q from (x ∷ xs) all =
    let parts = and_parts (p x) (list_all p xs) all in
    rw (from x parts.0) (weaker p q from xs parts.1)

each : (p : ℕ → Bool) (q : ℕ → Bool) → ((b : ℕ) → p b ≡ true → q b ≡ false) → (xs : List ℕ) → list_all p xs ≡ true → All (λ b. q b ≡ false) xs
each p q none [] all = λ k d below. absurd (omega arith)
each p q none (x ∷ xs) all =
    let parts = and_parts (p x) (list_all p xs) all in
    λ k d below. elim k as (λ k. k < suc (length xs) → q (get_or (x ∷ xs) k d) ≡ false) [ zero ↦ λ _. none x parts.0 | suc j ↦ λ h. each p q none xs parts.1 j d (omega arith) ] below

at_least : (a b : ℕ) → nat_le a b ≡ true → a ≤ b
at_least a b is = grind (arith, nat_tests)

is_at_least : (a b : ℕ) → a ≤ b → nat_le a b ≡ true
is_at_least a b below = grind (arith, nat_tests)

not_blank : (b : ℕ) → is_graphic b ≡ true → is_blank b ≡ false
not_blank b is =
    let low = at_least 33 b (and_parts (nat_le 33 b) (nat_le b 126) is).0 in
    rw (ne_eqb b 32 (λ e. omega (arith, low, e)), ne_eqb b 9 (λ e. omega (arith, low, e))) refl

printable : (b : ℕ) → is_graphic b ≡ true → is_printable b ≡ true
printable b is =
    let parts = and_parts (nat_le 33 b) (nat_le b 126) is in
    rw (is_at_least 32 b (let low = at_least 33 b parts.0 in omega (arith, low)), parts.1) refl

not_feed : (b : ℕ) → is_printable b ≡ true → (b == 10) ≡ false
not_feed b is =
    let low = at_least 32 b (and_parts (nat_le 32 b) (nat_le b 126) is).0 in
    ne_eqb b 10 (λ e. omega (arith, low, e))

not_return : (b : ℕ) → is_printable b ≡ true → (b == 13) ≡ false
not_return b is =
    let low = at_least 32 b (and_parts (nat_le 32 b) (nat_le b 126) is).0 in
    ne_eqb b 13 (λ e. omega (arith, low, e))

or_so : (a b : Bool) → b ≡ true → (a || b) ≡ true
or_so true b is = refl
or_so false b is = is

allowed : (b : ℕ) → is_printable b ≡ true → is_allowed b ≡ true
allowed b is = or_so (b == 9) (is_printable b) is

-- the words of a line with single spaces
kept : (word : List ℕ) (rest : Words) → nat_lt 0 (length word) ≡ true → filter (λ word. nat_lt 0 (length word)) (word ∷ rest) ≡ word ∷ filter (λ word. nat_lt 0 (length word)) rest
kept word rest is = rw is refl

pub words_line_of : (word : List ℕ) (rest : Words) → IsWord word → AreWords rest → words (line_of (word ∷ rest)) ≡ word ∷ rest
words_line_of word [] is are =
    ap words (append-nil word)
    ∙ ap (filter (λ word. nat_lt 0 (length word))) (slice_split_none is_blank word (each is_graphic is_blank not_blank word is.graphic))
    ∙ kept word [] is.some
words_line_of word (next ∷ rest) is are =
    ap (filter (λ word. nat_lt 0 (length word))) (slice_split_at is_blank word 32 (line_of (next ∷ rest)) (each is_graphic is_blank not_blank word is.graphic) refl)
    ∙ kept word (slice_split is_blank (line_of (next ∷ rest))) is.some
    ∙ ap (λ ws. word ∷ ws) (words_line_of next rest are.0 are.1)

both_all : (p : ℕ → Bool) (xs ys : List ℕ) → list_all p xs ≡ true → list_all p ys ≡ true → list_all p (xs ++ ys) ≡ true
both_all p xs ys all more = list_all-append p xs ys ∙ rw (all, more) refl

pub spaced_printable : (ws : Words) → AreWords ws → list_all is_printable (spaced ws) ≡ true
spaced_printable [] are = refl
spaced_printable (word ∷ rest) are = both_all is_printable word (spaced rest) (weaker is_graphic is_printable printable word are.0.graphic) (spaced_printable rest are.1)

pub line_of_printable : (ws : Words) → AreWords ws → list_all is_printable (line_of ws) ≡ true
line_of_printable [] are = refl
line_of_printable (word ∷ rest) are = both_all is_printable word (spaced rest) (weaker is_graphic is_printable printable word are.0.graphic) (spaced_printable rest are.1)

pub line_of_allowed : (ws : Words) → AreWords ws → list_all is_allowed (line_of ws) ≡ true
line_of_allowed ws are = weaker is_printable is_allowed allowed (line_of ws) (line_of_printable ws are)

-- a line of printable bytes that a line feed ends
last_byte : (xs : List ℕ) (k : ℕ) → list_all is_printable xs ≡ true → (slice_index xs k == 13) ≡ false
last_byte [] k all = refl
last_byte (x ∷ xs) zero all = not_return x (and_parts (is_printable x) (list_all is_printable xs) all).0
last_byte (x ∷ xs) (suc k) all = last_byte xs k (and_parts (is_printable x) (list_all is_printable xs) all).1

not_stripped : (xs : List ℕ) → list_all is_printable xs ≡ true → strip_carriage_return xs ≡ xs
not_stripped xs all = rw (last_byte xs (length xs - 1) all) refl

pub lines_line : (line rest : List ℕ) → list_all is_printable line ≡ true → lines (line ++ 10 ∷ rest) ≡ line ∷ lines rest
lines_line line rest all =
    ap lines_of_parts (slice_split_at (λ b. b == 10) line 10 rest (each is_printable (λ b. b == 10) not_feed line all) refl)
    ∙ one_more line (slice_split (λ b. b == 10) rest) (omega (arith, length-slice_split (λ b. b == 10) rest))
    ∙ ap (λ x. x ∷ lines rest) (not_stripped line all)

-- numbers as they are written
digit : (d : ℕ) → d < 10 → is_digit (48 + d) ≡ true
digit d few = rw (is_at_least 48 (48 + d) (omega (arith, few)), is_at_least (48 + d) 57 (omega (arith, few))) refl

pub decimal_digits : (n : ℕ) → n < 2 ^ 64 → list_all is_digit (decimal n) ≡ true
decimal_digits n small =
    decimal_by_steps (λ _ ds. list_all is_digit ds ≡ true)
    (λ d few. rw (digit d few) refl)
    (λ m ds large all. both_all is_digit ds ((48 + m % 10) ∷ []) all (rw (digit (m % 10) (omega arith)) refl))
    n small

graphic_digit : (b : ℕ) → is_digit b ≡ true → is_graphic b ≡ true
graphic_digit b is =
    let parts = and_parts (nat_le 48 b) (nat_le b 57) is in
    rw (is_at_least 33 b (let low = at_least 48 b parts.0 in omega (arith, low)), is_at_least b 126 (let high = at_least b 57 parts.1 in omega (arith, high))) refl

some_length : (xs : List ℕ) → 0 < length xs → nat_lt 0 (length xs) ≡ true
some_length xs some = grind (arith, nat_tests)

wide : (n : ℕ) → n < 10 ^ 18 → n < 2 ^ 64
wide n small = let limit : 10 ^ 18 ≤ 2 ^ 64 = lit≤ tt in omega (arith, small, limit)

pub decimal_word : (n : ℕ) → n < 10 ^ 18 → IsWord (decimal n)
decimal_word n small = record {
  some = some_length (decimal n) (decimal_nonempty n (wide n small));
  graphic = weaker is_digit is_graphic graphic_digit (decimal n) (decimal_digits n (wide n small));
}

decimal_are_digits : (n : ℕ) → n < 10 ^ 18 → are_digits (decimal n) ≡ true
decimal_are_digits n small =
    rw (some_length (decimal n) (decimal_nonempty n (wide n small)), is_at_least (length (decimal n)) 18 (length-decimal-le 18 n (lit< tt) small (wide n small)), decimal_digits n (wide n small)) refl

decimal_size : (n : ℕ) → n < 10 ^ 18 → size_of_digits (decimal n) ≡ Some n
decimal_size n small = rw (decimal_are_digits n small) (ap Some (decimal_is_IsNumeral n (wide n small)).1)

unsigned_number : (word : List ℕ) → list_all is_digit word ≡ true → nat_lt 0 (length word) ≡ true → number word ≡ option_map (signed false) (size_of_digits word)
unsigned_number [] all some = cc
unsigned_number (b ∷ bs) all some =
    let low = at_least 48 b (and_parts (nat_le 48 b) (nat_le b 57) (and_parts (is_digit b) (list_all is_digit bs) all).0).0 in
    rw (ne_eqb b 45 (λ e. omega (arith, low, e))) refl

pub number_decimal : (n : ℕ) → n < 10 ^ 18 → number (decimal n) ≡ Some (pos n)
number_decimal n small =
    unsigned_number (decimal n) (decimal_digits n (wide n small)) (some_length (decimal n) (decimal_nonempty n (wide n small)))
    ∙ ap (option_map (signed false)) (decimal_size n small)

pub number_signed : (z : ℤ) → unsigned_abs z < 10 ^ 18 → number (signed_decimal z) ≡ Some z
number_signed (pos n) small = number_decimal n small
number_signed (negsuc n) small = ap (option_map (signed true)) (decimal_size (suc n) small)

pub signed_word : (z : ℤ) → unsigned_abs z < 10 ^ 18 → IsWord (signed_decimal z)
signed_word (pos n) small = decimal_word n small
signed_word (negsuc n) small = record {
  some = some_length (45 ∷ decimal (suc n)) (omega arith);
  graphic = weaker is_digit is_graphic graphic_digit (decimal (suc n)) (decimal_digits (suc n) (wide (suc n) small));
}

-- a name is a word
graphic_letter : (b : ℕ) → is_letter b ≡ true → is_graphic b ≡ true
graphic_letter b is =
    let parts = and_parts (nat_le 97 b) (nat_le b 122) is in
    rw (is_at_least 33 b (let low = at_least 97 b parts.0 in omega (arith, low)), is_at_least b 126 (let high = at_least b 122 parts.1 in omega (arith, high))) refl

graphic_name : (b : ℕ) → is_name_byte b ≡ true → is_graphic b ≡ true
graphic_name b is =
    elim (is_letter b) as (λ t. is_letter b ≡ t → (t || (is_digit b || (b == 95))) ≡ true → is_graphic b ≡ true) [
      | true ↦ λ letter _. graphic_letter b letter
      | false ↦ λ _ more. elim (is_digit b) as (λ t. is_digit b ≡ t → (t || (b == 95)) ≡ true → is_graphic b ≡ true) [
        | true ↦ λ digit _. graphic_digit b digit
        | false ↦ λ _ underscore. let same : b ≡ 95 = grind (arith, nat_tests) in subst (λ b. is_graphic b ≡ true) (sym same) refl
      ] refl more
    ] refl is

first_letter : (word : List ℕ) → is_letter (slice_index word 0) ≡ true → nat_lt 0 (length word) ≡ true
first_letter [] is = cc
first_letter (b ∷ bs) is = some_length (b ∷ bs) (omega arith)

pub name_word : (word : List ℕ) → is_name word ≡ true → IsWord word
name_word word is =
    let parts = and_parts (is_letter (slice_index word 0)) (nat_le (length word) 16 && list_all is_name_byte word) is in
    record {
      some = first_letter word parts.0;
      graphic = weaker is_name_byte is_graphic graphic_name word (and_parts (nat_le (length word) 16) (list_all is_name_byte word) parts.1).1;
    }
