use Rattle.std.proofs.Common.{◌≡◌, ℕ, zero, suc, ◌/◌, ◌^◌, ◌≤◌, w64, ℤ, pos, negsuc, neg_ℤ, ◌*ℤ◌, refl, ap, ◌∙◌, arith}
use Rattle.std.specs.Int.RustNames.{FitsSigned, unsigned_abs, int_div}
use Rattle.std.proofs.lemmas.Int.{ints, to_z-of_z, quot_is}
use Rattle.std.proofs.Math.Nat.{div-le_of_le-mul}
use Rattle.tree_model.specs.Functions.{max_value}
use Rattle.haar_node.specs.Combinations.{IsLeafSum, leaf_value}
use Rattle.tree_model.proofs.IntegerLemmas.{product_within}
use Rattle.haar_node.proofs.StoredNumberLemmas.{stored}
use Rattle.haar_node.proofs.combine.combine_mul.Goals as goal

abs_neg : (n : ℕ) → unsigned_abs (neg_ℤ (pos n)) ≡ n
abs_neg zero = refl
abs_neg (suc n) = refl

abs_quotient : (z : ℤ) (n : ℕ) → unsigned_abs (int_div z (pos n)) ≡ unsigned_abs z / n
abs_quotient (pos m) n = refl
abs_quotient (negsuc m) n = abs_neg (suc m / n)

-- the product of the two values as the code has it
abbrev value_stored : ℤ → ℤ → ℤ → ℤ
value_stored left right cells = stored w64 (int_div (stored w64 left) (stored w64 cells)) *ℤ stored w64 (int_div (stored w64 right) (stored w64 cells))

-- what holds of it where the sums are those of leaves
record IsExact (left right : ℤ) (width : ℕ) (cells : ℤ) : Type 0 where
  fits : FitsSigned w64 (value_stored left right cells)
  value : stored w64 (value_stored left right cells) ≡ leaf_value left width *ℤ leaf_value right width

exact : (left right : ℤ) (width : ℕ) (cells : ℤ) → FitsSigned w64 left → FitsSigned w64 right → width ≤ 2 ^ 16 → IsLeafSum left width → IsLeafSum right width → cells ≡ pos width → IsExact left right width cells
exact left right width cells fits_left fits_right narrow leaf_left leaf_right same =
    let v = leaf_value left width in
    let u = leaf_value right width in
    let small_v : unsigned_abs v ≤ max_value = rw (abs_quotient left width) (div-le_of_le-mul width leaf_left.within) in
    let small_u : unsigned_abs u ≤ max_value = rw (abs_quotient right width) (div-le_of_le-mul width leaf_right.within) in
    let within = product_within v u (2 ^ 24) (2 ^ 24) small_v small_u in
    let fits_width : FitsSigned w64 (pos width) = omega (arith, ints) in
    let fits_v : FitsSigned w64 v = omega (arith, ints) in
    let fits_u : FitsSigned w64 u = omega (arith, ints) in
    let first = quot_is w64 left (pos width) fits_left fits_width fits_v in
    let second = quot_is w64 right (pos width) fits_right fits_width fits_u in
    let fits : FitsSigned w64 (v *ℤ u) = omega (arith, ints) in
    record { fits = rw (same, first, second) fits; value = rw (same, first, second) (to_z-of_z w64 (v *ℤ u) fits) }

-- what holds of the product where the value is within its limit
record IsExactProduct (left right : ℤ) (width : ℕ) (cells : ℤ) : Type 0 where
  fits : FitsSigned w64 (stored w64 cells *ℤ stored w64 (value_stored left right cells))
  product : stored w64 (stored w64 cells *ℤ stored w64 (value_stored left right cells)) ≡ pos width *ℤ (leaf_value left width *ℤ leaf_value right width)

exact_product : (left right : ℤ) (width : ℕ) (cells : ℤ) → width ≤ 2 ^ 16 → cells ≡ pos width → stored w64 (value_stored left right cells) ≡ leaf_value left width *ℤ leaf_value right width → unsigned_abs (leaf_value left width *ℤ leaf_value right width) ≤ max_value → IsExactProduct left right width cells
exact_product left right width cells narrow same value small =
    let fits_cells : FitsSigned w64 cells = rw same (omega (arith, ints)) in
    let count = (to_z-of_z w64 cells fits_cells ∙ same) in
    let within = product_within (pos width) (leaf_value left width *ℤ leaf_value right width) (2 ^ 16) (2 ^ 24) narrow small in
    let fits : FitsSigned w64 (pos width *ℤ (leaf_value left width *ℤ leaf_value right width)) = omega (arith, ints) in
    record { fits = rw (value, count) fits; product = rw (value, count) (to_z-of_z w64 (pos width *ℤ (leaf_value left width *ℤ leaf_value right width)) fits) }

pub overflow_mul-value : goal.overflow_mul-value
overflow_mul-value c =
    (exact c.args.left c.args.right c.args.width c.from-cells.result c.ranges.left c.ranges.right c.requires.width c.requires.left c.requires.right c.from-cells.ensures).fits

pub overflow_mul-result : goal.overflow_mul-result
overflow_mul-result c =
    let known = exact c.args.left c.args.right c.args.width c.from-cells.result c.ranges.left c.ranges.right c.requires.width c.requires.left c.requires.right c.from-cells.ensures in
    let size = (c.unsigned_abs.ensures.value ∙ ap unsigned_abs known.value) in
    (exact_product c.args.left c.args.right c.args.width c.from-cells.result c.requires.width c.from-cells.ensures known.value (omega arith)).fits

pub returns-clause-product : goal.returns-clause-product
returns-clause-product c =
    let known = exact c.args.left c.args.right c.args.width c.from-cells.result c.ranges.left c.ranges.right c.requires.width c.requires.left c.requires.right c.from-cells.ensures in
    let size = (c.unsigned_abs.ensures.value ∙ ap unsigned_abs known.value) in
    (exact_product c.args.left c.args.right c.args.width c.from-cells.result c.requires.width c.from-cells.ensures known.value (omega arith)).product

pub returns-clause-over : goal.returns-clause-over
returns-clause-over c =
    let known = exact c.args.left c.args.right c.args.width c.from-cells.result c.ranges.left c.ranges.right c.requires.width c.requires.left c.requires.right c.from-cells.ensures in
    let size = (c.unsigned_abs.ensures.value ∙ ap unsigned_abs known.value) in
    (λ err. absurd (cc), λ over. absurd (omega arith))
