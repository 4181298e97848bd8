-- Sums and products over boxes, from what the combinations return.
use Rattle.std.proofs.Common.{◌≡◌, ℕ, ◌*◌, ◌<◌, ◌↔◌, Bool, true, false, Result, Ok, Err, is_err, ℤ, pos, sym, ap, ⊎_elim, nat_le, arith}
use Rattle.std.specs.Int.RustNames.{unsigned_abs, int_rem}
use Rattle.std.proofs.lemmas.Bool.{lt-leb, leb-true, and_parts, eqb-true}
use Rattle.std.proofs.lemmas.Int.{ints}
use Rattle.std.proofs.lemmas.Bool.Decides.{leb_tells}
use Rattle.tree_model.specs.Functions.{max_value}
use Rattle.haar_node.specs.Combinations.{IsLeafSum}
use Rattle.haar_visits.specs.Multiplying.{is_leaf_sum}
use Rattle.haar_base.specs.Numbers.{divides}

-- where a combination returns a number, the limit of values isn't passed; and where it returns an error, it is
not_both : (b : Bool) → b ≡ false → b ≡ true → ⊥
not_both b fails passes = absurd (cc)

pub within_of_ok : {E : Type 0} (r : Result ℤ E) (z w : ℤ) (limit : ℕ) → r ≡ Ok z → (is_err r ≡ true) ↔ (limit < unsigned_abs w) → nat_le (unsigned_abs w) limit ≡ true
within_of_ok r z w limit ok over = ⊎_elim (λ p. p.0) (λ p. absurd (not_both (is_err r) (ap is_err ok) (over.1 p.1))) (leb_tells (unsigned_abs w) limit)

pub over_of_err : {E : Type 0} (r : Result ℤ E) (e : E) (w : ℤ) (limit : ℕ) → r ≡ Err e → (is_err r ≡ true) ↔ (limit < unsigned_abs w) → nat_le (unsigned_abs w) limit ≡ false
over_of_err r e w limit err over = lt-leb (unsigned_abs w) limit (over.0 (ap is_err err))

-- a sum that passes the test is one over a leaf
zero_abs : (z : ℤ) → unsigned_abs z ≡ 0 → z ≡ pos 0
zero_abs z e = omega (arith, ints)

pub leaf_sum_is : (sum : ℤ) (cells : ℕ) → is_leaf_sum sum cells ≡ true → IsLeafSum sum cells
leaf_sum_is sum cells passes =
    let p = and_parts (divides cells sum) (nat_le (unsigned_abs sum) (cells * max_value)) passes in
    record {
      exact = zero_abs (int_rem sum (pos cells)) (eqb-true (unsigned_abs (int_rem sum (pos cells))) 0 p.0);
      within = leb-true (unsigned_abs sum) (cells * max_value) p.1;
    }
