-- Lists of rows by rank, as they are written and read.
use Rattle.std.proofs.Common.{◌≡◌, ◌≢◌, ◌⊎◌, ℕ, zero, suc, ◌+◌, ◌<◌, ◌≤◌, List, [], ◌∷◌, length, take, refl, sym, ap, subst, inl, inr, ⊎_elim, ◌∙◌, arith}
use Rattle.std.specs.Prelude.{Option, Some, slice_get, slice_set}
use Rattle.event_lists.specs.declared.receipt.Row.{Row}
use Rattle.fence_tree.specs.Rows.{row_at}

get_same : (xs : List Row) (i : ℕ) (y : Row) → i < length xs → slice_get (slice_set xs i y) i ≡ Some y
get_same [] i y lt = absurd (omega (arith, lt))
get_same (x ∷ xs) zero y lt = refl
get_same (x ∷ xs) (suc i) y lt = get_same xs i y (omega (arith, lt))

get_other : (xs : List Row) (i j : ℕ) (y : Row) → j ≢ i → slice_get (slice_set xs i y) j ≡ slice_get xs j
get_other [] i j y apart = refl
get_other (x ∷ xs) zero zero y apart = absurd (apart refl)
get_other (x ∷ xs) zero (suc j) y apart = refl
get_other (x ∷ xs) (suc i) zero y apart = refl
get_other (x ∷ xs) (suc i) (suc j) y apart = get_other xs i j y (λ e. apart (ap suc e))

get_take : (xs : List Row) (n q : ℕ) → q < n → slice_get (take n xs) q ≡ slice_get xs q
get_take [] zero q lt = refl
get_take [] (suc n) q lt = refl
get_take (x ∷ xs) zero q lt = absurd (omega (arith, lt))
get_take (x ∷ xs) (suc n) zero lt = refl
get_take (x ∷ xs) (suc n) (suc q) lt = get_take xs n q (omega (arith, lt))

last : (q n : ℕ) → q < suc n → (q ≡ n) ⊎ (q < n)
last zero zero lt = inl refl
last zero (suc n) lt = inr (omega arith)
last (suc q) zero lt = absurd (omega (arith, lt))
last (suc q) (suc n) lt = ⊎_elim (λ e. inl (ap suc e)) (λ l. inr (omega (arith, l))) (last q n (omega (arith, lt)))

-- one more row is written
pub put_next : (rows : List Row) (known : List (Option Row)) (n : ℕ) (row : Row) → length rows ≡ 16 → n < 16 → row_at known n ≡ Some row
    → ((q : ℕ) → q < n → slice_get rows q ≡ row_at known q) → (q : ℕ) → q < n + 1 → slice_get (slice_set rows n row) q ≡ row_at known q
put_next rows known n row long within is before q lt = go (last q n (omega (arith, lt)))
  where
    go : (q ≡ n) ⊎ (q < n) → slice_get (slice_set rows n row) q ≡ row_at known q
    go (inl e) = subst (λ (m : ℕ). slice_get (slice_set rows n row) m ≡ row_at known m) (sym e) (get_same rows n row (omega (arith, long, within)) ∙ sym is)
    go (inr less) = get_other rows n q row (λ e. omega (arith, e, less)) ∙ before q less

-- the rows that were written, up to the last
pub taken : (rows kept : List Row) (known : List (Option Row)) (n m : ℕ) → kept ≡ take m rows → m ≤ n → ((q : ℕ) → q < n → slice_get rows q ≡ row_at known q) → (q : ℕ) → q < m → slice_get kept q ≡ row_at known q
taken rows kept known n m is le written q lt = ap (λ (z : List Row). slice_get z q) is ∙ get_take rows m q lt ∙ written q (omega (arith, le, lt))
