-- Numbers of nodes: the halves of a sum.
use Rattle.std.proofs.Common.{◌≡◌, ℕ, ◌*◌, true, Some, None, ℤ, pos, ◌+ℤ◌, ◌-ℤ◌, ◌*ℤ◌, sym, ◌∙◌, arith}
use Rattle.std.specs.Int.RustNames.{int_div}
use Rattle.std.proofs.lemmas.Bool.{cond-true}
use Rattle.tree_model.proofs.IntegerLemmas.{quotient_of_a_multiple}
use Rattle.haar_base.specs.Numbers.{divides, halves}

half_of : (h z : ℤ) → pos 2 *ℤ h ≡ z → int_div z (pos 2) ≡ h
half_of h z twice = rw (← twice) (quotient_of_a_multiple 2 h (omega arith))

-- two numbers of which these are twice are the halves
pub halves_are : (s d l r : ℤ) → divides 2 (s +ℤ d) ≡ true → pos 2 *ℤ l ≡ s +ℤ d → pos 2 *ℤ r ≡ s -ℤ d → Some (l, r) ≡ halves s d
halves_are s d l r even left right =
    sym (cond-true (divides 2 (s +ℤ d)) (Some (int_div (s +ℤ d) (pos 2), int_div (s -ℤ d) (pos 2))) None even
    ∙ (λ i. Some (half_of l (s +ℤ d) left i, half_of r (s -ℤ d) right i)))
