use Rattle.std.proofs.Common.{◌≡◌, ◌∙◌, ◌*◌, ◌^◌, ◌≤◌, ap, sym, true, false, Some, None, ◌*ℤ◌, ℤ, pos, nat_eq, arith, w64, FitsSigned, nat_le, to_z, of_z}
use Rattle.std.specs.Int.RustNames.{unsigned_abs, int_rem}
use Rattle.std.proofs.lemmas.Int.{ints, to_z-of_z}
use Rattle.std.proofs.lemmas.Bool.{cond-true, cond-false, leb-true, and_parts, eqb-true}
use Rattle.tree_model.specs.Functions.{max_value}
use Rattle.tree_model.proofs.IntegerLemmas.{product_within}
use Rattle.haar_node.specs.Combinations.{leaf_value}
use Rattle.haar_visits.specs.Multiplying.{is_leaf_sum, product_value}
use Rattle.haar_base.specs.Numbers.{divides}
use Rattle.haar_visits.proofs.CombinationLemmas.{within_of_ok, over_of_err, leaf_sum_is}
use Rattle.haar_visits.proofs.multiplying.leaf_product.Goals as goal

pub combine_mul-requires-clause-left : goal.combine_mul-requires-clause-left
combine_mul-requires-clause-left c =
    let f : FitsSigned w64 c.args.left = c.ranges.left in
    rw (to_z-of_z w64 c.args.left f) (leaf_sum_is c.args.left c.args.cells c.requires.left)

pub combine_mul-requires-clause-right : goal.combine_mul-requires-clause-right
combine_mul-requires-clause-right c =
    let f : FitsSigned w64 c.args.right = c.ranges.right in
    rw (to_z-of_z w64 c.args.right f) (leaf_sum_is c.args.right c.args.cells c.requires.right)

pub new-requires : goal.new-requires
new-requires c =
    let v = leaf_value (to_z w64 (of_z w64 c.args.left)) c.args.cells *ℤ leaf_value (to_z w64 (of_z w64 c.args.right)) c.args.cells in
    let under = leb-true (unsigned_abs v) max_value (within_of_ok c.combine_mul.result c.in-Ok.sum v max_value c.in-Ok.is c.combine_mul.ensures.over) in
    let bound : unsigned_abs c.in-Ok.sum ≤ 2 ^ 16 * 2 ^ 24 = rw c.in-Ok.ensures.product (product_within (pos c.args.cells) v (2 ^ 16) (2 ^ 24) c.requires.few under) in
    let fz : FitsSigned w64 c.in-Ok.sum = omega (arith, ints, bound) in
    rw (to_z-of_z w64 c.in-Ok.sum fz) (omega (arith, bound))
