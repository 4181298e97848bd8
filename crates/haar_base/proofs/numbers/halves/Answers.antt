use Rattle.std.proofs.Common.{◌≡◌, ◌∙◌, ap, sym, pos, ◌+ℤ◌, ◌-ℤ◌, ◌*ℤ◌, true, arith, w64, FitsSigned}
use Rattle.std.proofs.lemmas.Int.{ints, to_z-of_z}
use Rattle.haar_node.proofs.StoredNumberLemmas.{stored, stored_sum}
use Rattle.haar_base.specs.Numbers.{divides, halves}
use Rattle.haar_base.proofs.NumberLemmas.{halves_are}
use Rattle.haar_base.proofs.numbers.halves.Goals as goal

pub returns : goal.returns
returns c =
    let s = c.get-sum.result in
    let d = c.get-difference.result in
    let fs : FitsSigned w64 s = omega (arith, ints, c.get-sum.ensures.bound) in
    let fd : FitsSigned w64 d = omega (arith, ints, c.get-difference.ensures.bound) in
    let fw : FitsSigned w64 (s +ℤ d) = omega (arith, ints, c.get-sum.ensures.bound, c.get-difference.ensures.bound) in
    let ss = to_z-of_z w64 s fs in
    let dd = to_z-of_z w64 d fd in
    let even : divides 2 (s +ℤ d) ≡ true = ap (λ z. divides 2 z) (sym (stored_sum w64 s d fs fd fw)) ∙ sym c.if-not-is_even.ensures in
    let left : pos 2 *ℤ c.split-left.result.0 ≡ s +ℤ d = c.split-left.ensures.left ∙ (λ i. ss i +ℤ dd i) in
    let right : pos 2 *ℤ c.split-left.result.1 ≡ s -ℤ d = c.split-left.ensures.right ∙ (λ i. ss i -ℤ dd i) in
    let fl : FitsSigned w64 c.split-left.result.0 = omega (arith, ints, c.get-sum.ensures.bound, c.get-difference.ensures.bound) in
    let fr : FitsSigned w64 c.split-left.result.1 = omega (arith, ints, c.get-sum.ensures.bound, c.get-difference.ensures.bound) in
    let l : c.new.result ≡ c.split-left.result.0 = c.new.ensures ∙ to_z-of_z w64 c.split-left.result.0 fl in
    let r : c.new-2.result ≡ c.split-left.result.1 = c.new-2.ensures ∙ to_z-of_z w64 c.split-left.result.1 fr in
    halves_are s d c.new.result c.new-2.result even (ap (λ z. pos 2 *ℤ z) l ∙ left) (ap (λ z. pos 2 *ℤ z) r ∙ right)
    ∙ (λ i. halves (c.get-sum.ensures.value i) (c.get-difference.ensures.value i))
