-- The bytes of a word that is kept with zeros after it.
use Rattle.std.proofs.Common.{◌≡◌, ℕ, zero, suc, ◌+◌, ◌<◌, true, false, List, ◌++◌, length, take, get_or, refl, subst, ◌∙◌, ap, arith, length-append}
use Rattle.std.specs.Prelude.{◌&&◌, nat_le, replicate, slice_index}
use Rattle.std.specs.List.{list_all, position_or_len}
use Rattle.std.proofs.lemmas.Bool.{and_parts, ne_eqb}
use Rattle.std.proofs.lemmas.List.{get_or_append_left, get_or-append_right, length-replicate, take_at}
use Rattle.std.proofs.lemmas.List.Sums.{AllPass-from_list_all, position_or_len_is}
use Rattle.job_words.specs.Names.{is_letter, is_name_byte, is_name, is_zero, unpadded}

no_zero : is_name_byte 0 ≡ true → ⊥
no_zero is = cc

not_zero : (byte : ℕ) → is_name_byte byte ≡ true → is_zero byte ≡ false
not_zero byte is = ne_eqb byte 0 (λ e. no_zero (subst (λ b. is_name_byte b ≡ true) e is))

abbrev zeros : ℕ → List ℕ
zeros n = replicate n 0

zero_at : (n i : ℕ) → get_or (zeros n) i 0 ≡ 0
zero_at zero i = refl
zero_at (suc n) zero = refl
zero_at (suc n) (suc i) = zero_at n i

-- what is kept of a word is the word
unpadded_padded : (word : List ℕ) (n : ℕ) → list_all is_name_byte word ≡ true → unpadded (word ++ zeros n) ≡ word
unpadded_padded word n all =
    let many : length (zeros n) ≡ n = length-replicate {A = ℕ} n 0 in
    let long : length (word ++ zeros n) ≡ length word + n = omega (arith, length-append word (zeros n), many) in
    let before : (k : ℕ) → k < length word → is_zero (get_or (word ++ zeros n) k 0) ≡ false =
    (λ k below. ap is_zero (get_or_append_left word (zeros n) 0 k below) ∙ not_zero (get_or word k 0) (AllPass-from_list_all is_name_byte word all k 0 below)) in
    let there : is_zero (get_or (word ++ zeros n) (length word) 0) ≡ true =
    ap is_zero (get_or-append_right word (zeros n) (length word) (length word) 0 refl (omega arith) ∙ zero_at n _) in
    let first : position_or_len is_zero (word ++ zeros n) ≡ length word =
    position_or_len_is is_zero (word ++ zeros n) (length word) 0 (omega (arith, long)) before (λ below. there) in
    ap (λ k. take k (word ++ zeros n)) first ∙ take_at word (zeros n) (length word) refl

pub name_padded : (word : List ℕ) (n : ℕ) → is_name word ≡ true → unpadded (word ++ zeros n) ≡ word
name_padded word n is =
    let rest = (and_parts (is_letter (slice_index word 0)) (nat_le (length word) 16 && list_all is_name_byte word) is).1 in
    unpadded_padded word n (and_parts (nat_le (length word) 16) (list_all is_name_byte word) rest).1
