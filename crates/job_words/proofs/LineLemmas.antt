-- The lines of a text, one after another.
use Rattle.std.proofs.Common.{◌≡◌, ℕ, ◌+◌, ◌-◌, ◌<◌, Bool, true, false, List, [], ◌∷◌, ◌++◌, length, take, drop, cond, refl, sym, ◌∙◌, ap, subst, arith, get_or, eqb-true, append_assoc, inl, inr}
use Rattle.std.specs.Prelude.{Some, None, ◌==◌, ◌⊎◌, position, slice_index}
use Rattle.std.specs.List.{slice_split, position_or_len}
use Rattle.std.specs.Str.Lines.{lines, lines_of_parts, strip_carriage_return}
use Rattle.std.proofs.lemmas.List.Splits.{slice_split_first, slice_split_none, length-slice_split}
use Rattle.std.proofs.lemmas.List.Quantifiers.{position-Some}
use Rattle.std.proofs.lemmas.List.Sums.{position_or_len_is}
use Rattle.std.proofs.lemmas.Bool.Decides.{nat_tests}
use Rattle.std.proofs.lemmas.List.{take-append-drop, take_all, take_more, drop_more, append-nil}
use Rattle.job_words.specs.Lines.{IsCut}
use Rattle.job_words.proofs.PositionLemmas.{position_None}

abbrev newline : ℕ → Bool
newline b = b == 10

-- a part that others follow is a line, without a carriage return at its end
pub one_more : (x : List ℕ) (parts : List (List ℕ)) → 0 < length parts → lines_of_parts (x ∷ parts) ≡ strip_carriage_return x ∷ lines_of_parts parts
one_more x [] some = absurd (omega arith)
one_more x (y ∷ more) some = refl

-- a line feed ends the first line
pub line_at : (text : List ℕ) (at : ℕ) → position newline text ≡ Some at → lines text ≡ strip_carriage_return (take at text) ∷ lines (drop (at + 1) text)
line_at text at is =
    let found = position-Some newline text at 0 is in
    let place : position_or_len newline text ≡ at = position_or_len_is newline text at 0 (omega (arith, found.0)) found.2 (λ _. found.1) in
    let cut : slice_split newline text ≡ take at text ∷ slice_split newline (drop (at + 1) text) =
    subst (λ k. slice_split newline text ≡ take k text ∷ slice_split newline (drop (k + 1) text)) place (slice_split_first newline text 0 (omega (arith, place, found.0))) in
    ap lines_of_parts cut ∙ one_more (take at text) (slice_split newline (drop (at + 1) text)) (omega (arith, length-slice_split newline (drop (at + 1) text)))

-- with no line feed the text is its last line
pub last_line : (text : List ℕ) → position newline text ≡ None → 0 < length text → lines text ≡ text ∷ []
last_line [] is some = absurd (omega arith)
last_line (b ∷ bs) is some =
    let full : (length (b ∷ bs) == 0) ≡ false = grind (arith, nat_tests) in
    ap lines_of_parts (slice_split_none newline (b ∷ bs) (position_None newline (b ∷ bs) is)) ∙ rw full refl

last_byte : (l : List ℕ) (x : ℕ) → 0 < length l → get_or l (length l - 1) 0 ≡ x → l ≡ take (length l - 1) l ++ x ∷ []
last_byte l x some is =
    let long : length l ≡ length l - 1 + 1 = omega arith in
    sym (take_all (length l) l (omega arith)) ∙ ap (λ k. take k l) long ∙ take_more l (length l - 1) 0 (omega arith) ∙ ap (λ y. take (length l - 1) l ++ y ∷ []) is

-- a line whose last byte is a carriage return, or not
return_at_end : (l : List ℕ) (b : Bool) → (slice_index l (length l - 1) == 13) ≡ b → (end : List ℕ) × ((end ≡ []) ⊎ (end ≡ 13 ∷ [])) × (l ≡ cond b (take (length l - 1) l) l ++ end)
return_at_end l false is = ([], inl refl, sym (append-nil l))
return_at_end [] true is = cc
return_at_end (x ∷ l) true is = (13 ∷ [], inr refl, last_byte (x ∷ l) 13 (omega arith) (eqb-true _ 13 is))

-- the line feed at a place, between what is before it and after it
feed_at : (text : List ℕ) (at : ℕ) → position newline text ≡ Some at → text ≡ take at text ++ 10 ∷ drop (at + 1) text
feed_at text at is =
    let found = position-Some newline text at 0 is in
    let feed : get_or text at 0 ≡ 10 = eqb-true _ 10 found.1 in
    sym (take-append-drop at text) ∙ ap (λ k. take at text ++ k) (drop_more text at 0 found.0 ∙ ap (λ b. b ∷ drop (at + 1) text) feed)

-- a line feed ends the first line, alone or after a carriage return
pub cut_at : (text : List ℕ) (at : ℕ) → position newline text ≡ Some at → IsCut text (strip_carriage_return (take at text)) (drop (at + 1) text)
cut_at text at is =
    let part = take at text in
    let line = strip_carriage_return part in
    let rest = drop (at + 1) text in
    let front = return_at_end part _ refl in
    let bytes : text ≡ (line ++ front.0) ++ 10 ∷ rest = feed_at text at is ∙ ap (λ l. l ++ 10 ∷ rest) front.2 in
    elim front.1 [
      | inl bare ↦ record {
        end = 10 ∷ [];
        ends = inl refl;
        bytes = bytes ∙ ap (λ e. (line ++ e) ++ 10 ∷ rest) bare ∙ ap (λ l. l ++ 10 ∷ rest) (append-nil line) ∙ sym (append_assoc line (10 ∷ []) rest);
      }
      | inr after ↦ record {
        end = 13 ∷ 10 ∷ [];
        ends = inr (inl refl);
        bytes = bytes ∙ ap (λ e. (line ++ e) ++ 10 ∷ rest) after ∙ append_assoc line (13 ∷ []) (10 ∷ rest) ∙ sym (append_assoc line (13 ∷ 10 ∷ []) rest);
      }
    ]
