-- Lemmas that crates above use: ranges of numbers, in parts.
use Rattle.std.proofs.Common.{◌≡◌, ℕ, zero, suc, ◌+◌, ◌-◌, ◌≤◌, [], ◌∷◌, ◌++◌, take, drop, map, Bool, ◌&&◌, true, false, refl, ◌∙◌, ap, subst, arith, add-zero, zero-add}
use Rattle.std.specs.List.{range_with_len, list_all, drop-map}
use Rattle.std.proofs.lemmas.List.Folds.{list_all-append}
use Rattle.std.proofs.lemmas.List.FromFn.{length-range_with_len, take-map-range_with_len}
use Rattle.std.proofs.Math.Seq.{drop-append_seam}

pub range_split : (a m n : ℕ) → range_with_len a (m + n) ≡ range_with_len a m ++ range_with_len (a + m) n
range_split a zero n = rw (zero-add, add-zero) refl
range_split a (suc m) n =
    let count : suc m + n ≡ suc (m + n) = omega arith in
    let start : a + suc m ≡ a + 1 + m = omega arith in
    rw (count, start) (ap (λ rest. a ∷ rest) (range_split (a + 1) m n))

-- one more at the end
pub range_more : (a n : ℕ) → range_with_len a (n + 1) ≡ range_with_len a n ++ (a + n) ∷ []
range_more a n = range_split a n 1

pub list_all_range_more : (p : ℕ → Bool) (n : ℕ) → list_all p (range_with_len 0 (n + 1)) ≡ (list_all p (range_with_len 0 n) && p n)
list_all_range_more p n = rw (range_more 0 n, list_all-append, zero-add) (ap (λ b. list_all p (range_with_len 0 n) && b) (and_true (p n)))
  where
    and_true : (b : Bool) → (b && true) ≡ b
    and_true true = refl
    and_true false = refl

-- a range without its first numbers
drop_range : (a m n : ℕ) → drop m (range_with_len a (m + n)) ≡ range_with_len (a + m) n
drop_range a m n =
    let seam = drop-append_seam (range_with_len a m) (range_with_len (a + m) n) in
    rw (range_split a m n) (subst (λ k. drop k (range_with_len a m ++ range_with_len (a + m) n) ≡ range_with_len (a + m) n) (length-range_with_len a m) seam)

-- a slice of what a function makes of a range
pub slice_map_range : {X : Type 0} (g : ℕ → X) (from count all : ℕ) → from + count ≤ all → take count (drop from (map g (range_with_len 0 all))) ≡ map g (range_with_len from count)
slice_map_range g from count all fits =
    let parts : all ≡ from + (all - from) = omega arith in
    let dropped : drop from (map g (range_with_len 0 all)) ≡ map g (range_with_len from (all - from)) = (rw (drop-map g from (range_with_len 0 all)) (ap (map g) (ap (λ n. drop from (range_with_len 0 n)) parts ∙ drop_range 0 from (all - from) ∙ ap (λ a. range_with_len a (all - from)) (zero-add from)))) in
    rw dropped (take-map-range_with_len g from (all - from) count (omega arith))
