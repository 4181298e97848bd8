use Rattle.std.proofs.Common.{arith, ◌∙◌}
use Rattle.std.proofs.lemmas.Result.{IfOk-weaker}
use Rattle.tree_operations.proofs.StoredNumberLemmas.{passed}
use Rattle.tree_operations.proofs.LeafProductLemmas.{cells_there, left_leaf_sum, right_leaf_sum, product_on_one_leaf, overflow_on_leaf, product_small}
use Rattle.tree_operations.proofs.multiplying.multiply_leaf.Goals as goal

pub combine_mul-requires-clause-left : goal.combine_mul-requires-clause-left
combine_mul-requires-clause-left c =
    let is = c.requires.2 in
    let cells = cells_there c.args.depth c.level.result c.args.key c.level.ensures.value (omega (arith, is.sound_left.depth, is.depth_left)) in
    left_leaf_sum c.requires.0 c.requires.1 c.args.depth c.args.key c.args.left c.args.right _ _ is (passed c.args.left c.ranges.left) cells

pub combine_mul-requires-clause-right : goal.combine_mul-requires-clause-right
combine_mul-requires-clause-right c =
    let is = c.requires.2 in
    let cells = cells_there c.args.depth c.level.result c.args.key c.level.ensures.value (omega (arith, is.sound_left.depth, is.depth_left)) in
    right_leaf_sum c.requires.0 c.requires.1 c.args.depth c.args.key c.args.left c.args.right _ _ is (passed c.args.right c.ranges.right) cells

pub returns-clause-product : goal.returns-clause-product
returns-clause-product c =
    let is = c.requires.2 in
    let cells = cells_there c.args.depth c.level.result c.args.key c.level.ensures.value (omega (arith, is.sound_left.depth, is.depth_left)) in
    IfOk-weaker c.combine_mul.result _ _ (λ sum made f g leaf. made ∙ product_on_one_leaf f g c.args.depth c.args.key c.args.left c.args.right _ _ _ leaf (passed c.args.left c.ranges.left) (passed c.args.right c.ranges.right) cells) c.combine_mul.ensures.product

pub returns-clause-within : goal.returns-clause-within
returns-clause-within c =
    let is = c.requires.2 in
    let cells = cells_there c.args.depth c.level.result c.args.key c.level.ensures.value (omega (arith, is.sound_left.depth, is.depth_left)) in
    product_small c.combine_mul.result _ _ _ cells c.combine_mul.ensures.product c.combine_mul.ensures.over

pub returns-clause-over : goal.returns-clause-over
returns-clause-over c = λ failed f g leaf.
    let is = c.requires.2 in
    let cells = cells_there c.args.depth c.level.result c.args.key c.level.ensures.value (omega (arith, is.sound_left.depth, is.depth_left)) in
    overflow_on_leaf f g c.args.depth c.args.key c.args.left c.args.right _ _ _ leaf (passed c.args.left c.ranges.left) (passed c.args.right c.ranges.right) cells (c.combine_mul.ensures.over.0 failed)
