use Rattle.std.proofs.Common.{◌≡◌, ◌^◌, ◌∙◌, true, sym, ap, pos, ℤ, ◌+ℤ◌, ◌*ℤ◌, arith, w64, FitsSigned}
use Rattle.std.specs.Int.{w128}
use Rattle.std.specs.Int.RustNames.{int_div}
use Rattle.std.proofs.lemmas.Int.{ints, to_z-of_z}
use Rattle.std.proofs.lemmas.Bool.{cond-true}
use Rattle.std.proofs.lemmas.Nat.{pow_pos}
use Rattle.tree_model.proofs.IntegerLemmas.{quotient_of_a_multiple}
use Rattle.haar_base.specs.declared.value.Value.TheVariants.{Product, Bad}
use Rattle.haar_base.specs.Numbers.{divides}
use Rattle.haar_visits.proofs.inner_products.whole_product.Goals as goal

pub returns-then-divides : goal.returns-then-divides
returns-then-divides c =
    let s = c.get-sum.result in
    let t = c.get-other.result in
    let q = c.args.part in
    let r = c.finish_inner.result in
    let cells = 2 ^ c.args.depth in
    let w = c.args.sum *ℤ c.args.other +ℤ q in
    let fs : FitsSigned w64 s = omega (arith, ints, c.get-sum.ensures.bound) in
    let ft : FitsSigned w64 t = omega (arith, ints, c.get-other.ensures.bound) in
    let es = to_z-of_z w64 s fs ∙ c.get-sum.ensures.value in
    let et = to_z-of_z w64 t ft ∙ c.get-other.ensures.value in
    let eq = to_z-of_z w128 q c.ranges.part in
    let fw : FitsSigned w128 c.whole.result = record { sfits = c.whole.type_inv } in
    let whole_is = to_z-of_z w128 c.whole.result fw ∙ c.whole.ensures ∙ (λ i. es i *ℤ et i +ℤ eq i) in
    let test : divides cells w ≡ true = (λ i. divides (sym c.cells.ensures i) (sym whole_is i)) ∙ sym c.if-divides.ensures in
    let quotient : pos cells *ℤ r ≡ w = c.finish_inner.ensures.quotient ∙ (λ i. es i *ℤ et i +ℤ eq i) in
    let fr : FitsSigned w128 r = record { sfits = c.finish_inner.type_inv } in
    let is : int_div w (pos cells) ≡ r = rw (← quotient) (quotient_of_a_multiple cells r (pow_pos c.args.depth)) in
    ap Product (to_z-of_z w128 r fr ∙ sym is) ∙ sym (cond-true (divides cells w) (Product (int_div w (pos cells))) Bad test)
