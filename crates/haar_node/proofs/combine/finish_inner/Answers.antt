use Rattle.std.proofs.Common.{◌≡◌, ℕ, ◌^◌, ◌≤◌, ℤ, pos, ◌+ℤ◌, ◌*ℤ◌, sym, ap, ◌∙◌, arith}
use Rattle.std.specs.Int.{w64, w128}
use Rattle.std.specs.Int.RustNames.{FitsSigned, unsigned_abs, int_div, int_rem}
use Rattle.std.proofs.lemmas.Int.{ints, to_z-of_z, quot_is, quot_fits, quot-rem}
use Rattle.std.proofs.lemmas.Nat.{one_shl, pow_pos}
use Rattle.std.proofs.Math.IntN.{*ℤ_comm, +ℤ_idr}
use Rattle.std.proofs.Math.Nat.{pow-le-pow_right}
use Rattle.tree_key.specs.Keys.{root}
use Rattle.tree_model.specs.Functions.{max_depth}
use Rattle.tree_model.specs.Nodes.{max_number}
use Rattle.tree_model.specs.Trees.{box_sum}
use Rattle.tree_model.specs.Products.{inner_product, inner_part}
use Rattle.tree_model.proofs.IntegerLemmas.{times_cancel, product_within}
use Rattle.tree_model.proofs.InnerProductLemmas.{product_law}
use Rattle.haar_node.specs.Combinations.{IsInnerProduct}
use Rattle.haar_node.proofs.StoredNumberLemmas.{stored, stored_product}
use Rattle.haar_node.proofs.combine.finish_inner.Goals as goal

-- the product of the sums and the part of the differences, divided, as the code has them
abbrev whole_stored : ℤ → ℤ → ℤ → ℤ
whole_stored s t q = stored w128 (stored w128 s *ℤ stored w128 t) +ℤ stored w128 q

abbrev quotient_stored : ℤ → ℤ → ℤ → ℤ → ℤ
quotient_stored s t q cells = stored w128 (int_div (stored w128 (whole_stored s t q)) (stored w128 cells))

exact : (s t q : ℤ) (depth : ℕ) (cells : ℤ) → unsigned_abs s ≤ max_number → unsigned_abs t ≤ max_number → unsigned_abs q ≤ 2 ^ 100 → depth ≤ max_depth → int_rem (s *ℤ t +ℤ q) (pos (2 ^ depth)) ≡ pos 0 → cells ≡ pos (2 ^ depth) → pos (2 ^ depth) *ℤ quotient_stored s t q cells ≡ s *ℤ t +ℤ q
exact s t q depth cells small_s small_t small_q shallow divides same =
    let within = product_within s t (2 ^ 41) (2 ^ 41) small_s small_t in
    let product = stored_product w128 s t (omega (arith, ints)) (omega (arith, ints)) (omega (arith, ints)) in
    let part = to_z-of_z w128 q (omega (arith, ints)) in
    let fits : FitsSigned w128 (s *ℤ t +ℤ q) = omega (arith, ints) in
    let some = pow_pos depth in
    let few = pow-le-pow_right {n = 2} (omega arith) {i = depth} {j = 16} shallow in
    let fits_cells : FitsSigned w128 (pos (2 ^ depth)) = omega (arith, ints) in
    let quotient = quot_is w128 (s *ℤ t +ℤ q) (pos (2 ^ depth)) fits fits_cells (quot_fits w128 (s *ℤ t +ℤ q) (pos (2 ^ depth)) fits (omega (arith, ints))) in
    let whole : int_div (s *ℤ t +ℤ q) (pos (2 ^ depth)) *ℤ pos (2 ^ depth) ≡ s *ℤ t +ℤ q = (sym (+ℤ_idr _) ∙ ap (λ z. int_div (s *ℤ t +ℤ q) (pos (2 ^ depth)) *ℤ pos (2 ^ depth) +ℤ z) (sym divides) ∙ quot-rem (s *ℤ t +ℤ q) (pos (2 ^ depth))) in
    rw (product, part, same, quotient) (*ℤ_comm (pos (2 ^ depth)) (int_div (s *ℤ t +ℤ q) (pos (2 ^ depth))) ∙ whole)

-- on the numbers of two trees the quotient is their inner product, by the product law
inner : (s t q : ℤ) (depth : ℕ) (answer : ℤ) → pos (2 ^ depth) *ℤ answer ≡ s *ℤ t +ℤ q → IsInnerProduct s t q depth answer
inner s t q depth answer whole f g tree_f tree_g deep_f deep_g sum other part =
    let same : s *ℤ t +ℤ q ≡ box_sum f root *ℤ box_sum g root +ℤ inner_part f g root = (λ i. sum i *ℤ other i +ℤ part i) in
    let law = product_law f g tree_f tree_g (deep_f ∙ sym deep_g) in
    times_cancel (2 ^ depth) answer (inner_product f g) (pow_pos depth)
    (whole ∙ same ∙ law ∙ ap (λ d. pos (2 ^ d) *ℤ inner_product f g) deep_f)

pub returns-clause-quotient : goal.returns-clause-quotient
returns-clause-quotient c =
    let first = (c.from.ensures ∙ to_z-of_z w64 c.args.sum c.ranges.sum) in
    let second = (c.from-2.ensures ∙ to_z-of_z w64 c.args.other c.ranges.other) in
    let cells = (c.from-cells.ensures ∙ ap pos (one_shl c.args.depth 32 (omega (arith, c.requires.depth)))) in
    rw (first, second) (exact c.args.sum c.args.other c.args.part c.args.depth c.from-cells.result c.requires.sum c.requires.other c.requires.part c.requires.depth c.requires.exact cells)

pub returns-clause-inner : goal.returns-clause-inner
returns-clause-inner c =
    let first = (c.from.ensures ∙ to_z-of_z w64 c.args.sum c.ranges.sum) in
    let second = (c.from-2.ensures ∙ to_z-of_z w64 c.args.other c.ranges.other) in
    let cells = (c.from-cells.ensures ∙ ap pos (one_shl c.args.depth 32 (omega (arith, c.requires.depth)))) in
    let whole = exact c.args.sum c.args.other c.args.part c.args.depth c.from-cells.result c.requires.sum c.requires.other c.requires.part c.requires.depth c.requires.exact cells in
    rw (first, second) (inner c.args.sum c.args.other c.args.part c.args.depth (quotient_stored c.args.sum c.args.other c.args.part c.from-cells.result) whole)
