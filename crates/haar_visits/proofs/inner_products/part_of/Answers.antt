use Rattle.std.proofs.Common.{◌≡◌, ◌≤◌, ◌^◌, ◌∙◌, pos, ◌+ℤ◌, ◌*ℤ◌, arith, w64, FitsSigned}
use Rattle.std.specs.Int.{w128}
use Rattle.std.specs.Int.RustNames.{unsigned_abs}
use Rattle.std.proofs.lemmas.Int.{ints, to_z-of_z}
use Rattle.tree_model.proofs.IntegerLemmas.{product_within}
use Rattle.haar_visits.proofs.inner_products.part_of.Goals as goal

pub returns-clause-bound : goal.returns-clause-bound
returns-clause-bound c =
    let d = c.get-first.result in
    let e = c.get-second.result in
    let r = c.combine_inner.result in
    let fd : FitsSigned w64 d = omega (arith, ints, c.get-first.ensures.bound) in
    let fe : FitsSigned w64 e = omega (arith, ints, c.get-second.ensures.bound) in
    let ed = to_z-of_z w64 d fd in
    let ee = to_z-of_z w64 e fe in
    let el = to_z-of_z w128 c.args.left c.ranges.left in
    let er = to_z-of_z w128 c.args.right c.ranges.right in
    let is : r ≡ d *ℤ e +ℤ pos 2 *ℤ (c.args.left +ℤ c.args.right) = c.combine_inner.ensures ∙ (λ i. ed i *ℤ ee i +ℤ pos 2 *ℤ (el i +ℤ er i)) in
    let within = product_within d e (2 ^ 41) (2 ^ 41) c.get-first.ensures.bound c.get-second.ensures.bound in
    let bound : unsigned_abs r ≤ 2 ^ 100 = rw is (omega (arith, ints, within, c.requires.left, c.requires.right)) in
    let fr : FitsSigned w128 r = omega (arith, ints, bound) in
    rw (to_z-of_z w128 r fr) bound
