use Rattle.std.proofs.Common.{◌≡◌, ◌^◌, ◌≤◌, ℤ, pos, ◌+ℤ◌, ◌*ℤ◌, ◌∙◌, arith}
use Rattle.std.specs.Int.{w64, w128}
use Rattle.std.specs.Int.RustNames.{FitsSigned, unsigned_abs}
use Rattle.std.proofs.lemmas.Int.{ints, to_z-of_z}
use Rattle.tree_model.specs.Nodes.{max_number}
use Rattle.tree_model.proofs.IntegerLemmas.{product_within}
use Rattle.haar_node.proofs.StoredNumberLemmas.{stored, stored_product, stored_sum}
use Rattle.haar_node.proofs.combine.combine_inner.Goals as goal

-- the product of the differences, and twice the sum of what the children add, as the code has them
abbrev product_stored : ℤ → ℤ → ℤ
product_stored d e = stored w128 (stored w128 d *ℤ stored w128 e)

abbrev children_stored : ℤ → ℤ → ℤ
children_stored left right = stored w128 (pos 2 *ℤ stored w128 (stored w128 left +ℤ stored w128 right))

-- what holds of them within the limits
record IsExact (d e left right : ℤ) : Type 0 where
  fits : FitsSigned w128 (product_stored d e +ℤ children_stored left right)
  part : stored w128 (product_stored d e +ℤ children_stored left right) ≡ d *ℤ e +ℤ pos 2 *ℤ (left +ℤ right)

exact : (d e left right : ℤ) → unsigned_abs d ≤ max_number → unsigned_abs e ≤ max_number → unsigned_abs left ≤ 2 ^ 90 → unsigned_abs right ≤ 2 ^ 90 → IsExact d e left right
exact d e left right small_d small_e small_left small_right =
    let within = product_within d e (2 ^ 41) (2 ^ 41) small_d small_e in
    let product = stored_product w128 d e (omega (arith, ints)) (omega (arith, ints)) (omega (arith, ints)) in
    let both = stored_sum w128 left right (omega (arith, ints)) (omega (arith, ints)) (omega (arith, ints)) in
    let twice_fits : FitsSigned w128 (pos 2 *ℤ (left +ℤ right)) = omega (arith, ints) in
    let children : children_stored left right ≡ pos 2 *ℤ (left +ℤ right) = rw both (to_z-of_z w128 (pos 2 *ℤ (left +ℤ right)) twice_fits) in
    let fits : FitsSigned w128 (d *ℤ e +ℤ pos 2 *ℤ (left +ℤ right)) = omega (arith, ints) in
    record { fits = rw (product, children) fits; part = rw (product, children) (to_z-of_z w128 (d *ℤ e +ℤ pos 2 *ℤ (left +ℤ right)) fits) }

pub overflow_add-result-2 : goal.overflow_add-result-2
overflow_add-result-2 c =
    let first = (c.from.ensures ∙ to_z-of_z w64 c.args.difference c.ranges.difference) in
    let second = (c.from-2.ensures ∙ to_z-of_z w64 c.args.other c.ranges.other) in
    rw (first, second) (exact c.args.difference c.args.other c.args.left c.args.right c.requires.difference c.requires.other c.requires.left c.requires.right).fits

pub returns : goal.returns
returns c =
    let first = (c.from.ensures ∙ to_z-of_z w64 c.args.difference c.ranges.difference) in
    let second = (c.from-2.ensures ∙ to_z-of_z w64 c.args.other c.ranges.other) in
    rw (first, second) (exact c.args.difference c.args.other c.args.left c.args.right c.requires.difference c.requires.other c.requires.left c.requires.right).part
