use Rattle.std.proofs.Common.{◌<◌, true, false, sym, ◌∙◌, rules, arith}
use Rattle.std.proofs.lemmas.Result.{on_ok_weaker}
use Rattle.tree_model.specs.Operations.{product}
use Rattle.tree_operations.proofs.LeafFillingLemmas.{fills_children}
use Rattle.tree_operations.proofs.StoredNumberLemmas.{passed}
use Rattle.tree_operations.proofs.MultiplyingLemmas.{same_error, leaf_to_multiply, cut_in_product, child_to_multiply, product_of_two, product_leaf_set}
use Rattle.tree_operations.proofs.LeafValueLemmas.{leaf_has_values, halves_have_values}
use Rattle.tree_operations.proofs.multiplying.+multiply_below.Goals as goal

pub multiply_leaf-requires : goal.multiply_leaf-requires
multiply_leaf-requires t c =
    let leaf = leaf_to_multiply c.requires.0 c.requires.1 c.args.left.now c.args.right.now c.args.depth c.args.key c.args.left_above c.args.right_above c.whole_sum-left_sum.result c.whole_sum-right_sum.result c.in-Some.one c.in-Some.other c.requires.2 c.whole_sum-left_sum.ensures c.whole_sum-right_sum.ensures c.in-Some.ensures in
    (c.requires.0, c.requires.1, rw (passed c.in-Some.one (search rules), passed c.in-Some.other (search rules)) leaf)

pub returns-in_err-sum-in-Some-clause-over : goal.returns-in_err-sum-in-Some-clause-over
returns-in_err-sum-in-Some-clause-over t c = λ _ f g is.
    let leaf = leaf_to_multiply f g c.args.left.now c.args.right.now c.args.depth c.args.key c.args.left_above c.args.right_above c.whole_sum-left_sum.result c.whole_sum-right_sum.result c.in-Some.one c.in-Some.other is c.whole_sum-left_sum.ensures c.whole_sum-right_sum.ensures c.in-Some.ensures in
    c.in_err-sum-in-Some.ensures.over (search rules) f g (rw (passed c.in-Some.one (search rules), passed c.in-Some.other (search rules)) leaf)

pub returns-in_ok-set_number-in-Some-clause-product : goal.returns-in_ok-set_number-in-Some-clause-product
returns-in_ok-set_number-in-Some-clause-product t c = λ f g is.
    let leaf = leaf_to_multiply f g c.args.left.now c.args.right.now c.args.depth c.args.key c.args.left_above c.args.right_above c.whole_sum-left_sum.result c.whole_sum-right_sum.result c.in-Some.one c.in-Some.other is c.whole_sum-left_sum.ensures c.whole_sum-right_sum.ensures c.in-Some.ensures in
    let tree = product_of_two f g c.args.left.now c.args.right.now c.args.depth c.args.key c.args.left_above c.args.right_above is in
    let sum = c.in_ok-sum-in-Some.ensures.product f g (rw (passed c.in-Some.one (search rules), passed c.in-Some.other (search rules)) leaf) in
    product_leaf_set f g c.args.key c.in_ok-sum-in-Some.sum c.args.sums.now c.set_number.new.numbers tree leaf.leaf (search rules) sum c.in_ok-set_number-in-Some.ensures

pub returns-in_ok-set_number-in-Some-clause-within : goal.returns-in_ok-set_number-in-Some-clause-within
returns-in_ok-set_number-in-Some-clause-within t c = λ f g is.
    let leaf = leaf_to_multiply f g c.args.left.now c.args.right.now c.args.depth c.args.key c.args.left_above c.args.right_above c.whole_sum-left_sum.result c.whole_sum-right_sum.result c.in-Some.one c.in-Some.other is c.whole_sum-left_sum.ensures c.whole_sum-right_sum.ensures c.in-Some.ensures in
    let tree = product_of_two f g c.args.left.now c.args.right.now c.args.depth c.args.key c.args.left_above c.args.right_above is in
    let sum = c.in_ok-sum-in-Some.ensures.product f g (rw (passed c.in-Some.one (search rules), passed c.in-Some.other (search rules)) leaf) in
    leaf_has_values (product f g) c.args.key tree leaf.leaf (rw (← sum, leaf.depth_left) c.in_ok-sum-in-Some.ensures.within)

pub child-first-requires : goal.child-first-requires
child-first-requires t c =
    let cut = cut_in_product c.requires.0 c.requires.1 c.args.left.now c.args.right.now c.args.depth c.args.key c.args.left_above c.args.right_above c.whole_sum-left_sum.result c.whole_sum-right_sum.result c.requires.2 c.whole_sum-left_sum.ensures c.whole_sum-right_sum.ensures c.in-None.ensures in
    omega (arith, cut.above, c.requires.2.keeps_left.sound.depth)

pub multiply_below-requires : goal.multiply_below-requires
multiply_below-requires t c =
    let cut = cut_in_product c.requires.0 c.requires.1 c.args.left.now c.args.right.now c.args.depth c.args.key c.args.left_above c.args.right_above c.whole_sum-left_sum.result c.whole_sum-right_sum.result c.requires.2 c.whole_sum-left_sum.ensures c.whole_sum-right_sum.ensures c.in-None.ensures in
    let deep : c.args.key.level < 16 = omega (arith, cut.above, c.requires.2.keeps_left.sound.depth) in
    let child = child_to_multiply c.requires.0 c.requires.1 c.args.left.now c.args.right.now c.args.depth c.args.key false c.args.left_above c.args.right_above c.whole_sum-left_sum.result c.whole_sum-right_sum.result c.half_of-left_half.result c.half_of-right_half.result c.requires.2 c.whole_sum-left_sum.ensures c.whole_sum-right_sum.ensures c.in-None.ensures c.half_of-left_half.ensures c.half_of-right_half.ensures in
    (search rules, (c.requires.0, c.requires.1, rw c.child-first.ensures child))

pub multiply_below-requires-in-None : goal.multiply_below-requires-in-None
multiply_below-requires-in-None t c =
    let cut = cut_in_product c.requires.0 c.requires.1 c.args.left.now c.args.right.now c.args.depth c.args.key c.args.left_above c.args.right_above c.whole_sum-left_sum.result c.whole_sum-right_sum.result c.requires.2 c.whole_sum-left_sum.ensures c.whole_sum-right_sum.ensures c.in-None.ensures in
    let deep : c.args.key.level < 16 = omega (arith, cut.above, c.requires.2.keeps_left.sound.depth) in
    let child = child_to_multiply c.requires.0 c.requires.1 c.args.left.now c.args.right.now c.args.depth c.args.key true c.args.left_above c.args.right_above c.whole_sum-left_sum.result c.whole_sum-right_sum.result c.half_of-left_half.result c.half_of-right_half.result c.requires.2 c.whole_sum-left_sum.ensures c.whole_sum-right_sum.ensures c.in-None.ensures c.half_of-left_half.ensures c.half_of-right_half.ensures in
    (search rules, (c.requires.0, c.requires.1, rw c.child-second.ensures child))

pub returns-in_err-multiply_below-in-None-clause-over : goal.returns-in_err-multiply_below-in-None-clause-over
returns-in_err-multiply_below-in-None-clause-over t c = λ over f g is.
    let child = child_to_multiply f g c.args.left.now c.args.right.now c.args.depth c.args.key false c.args.left_above c.args.right_above c.whole_sum-left_sum.result c.whole_sum-right_sum.result c.half_of-left_half.result c.half_of-right_half.result is c.whole_sum-left_sum.ensures c.whole_sum-right_sum.ensures c.in-None.ensures c.half_of-left_half.ensures c.half_of-right_half.ensures in
    c.in_err-multiply_below-in-None.ensures.over (sym (same_error c.from_residual-in_err-multiply_below-in-None.result c.in_err-multiply_below-in-None.field-0.0 c.from_residual-in_err-multiply_below-in-None.ensures.1) ∙ over) f g (rw c.child-first.ensures child)

pub returns-in_ok-multiply_below-in-None-clause-product : goal.returns-in_ok-multiply_below-in-None-clause-product
returns-in_ok-multiply_below-in-None-clause-product t c =
    on_ok_weaker c.multiply_below-in-None.result (λ filled f g is. (
    let cut = cut_in_product f g c.args.left.now c.args.right.now c.args.depth c.args.key c.args.left_above c.args.right_above c.whole_sum-left_sum.result c.whole_sum-right_sum.result is c.whole_sum-left_sum.ensures c.whole_sum-right_sum.ensures c.in-None.ensures in
    let left = child_to_multiply f g c.args.left.now c.args.right.now c.args.depth c.args.key false c.args.left_above c.args.right_above c.whole_sum-left_sum.result c.whole_sum-right_sum.result c.half_of-left_half.result c.half_of-right_half.result is c.whole_sum-left_sum.ensures c.whole_sum-right_sum.ensures c.in-None.ensures c.half_of-left_half.ensures c.half_of-right_half.ensures in
    let right = child_to_multiply f g c.args.left.now c.args.right.now c.args.depth c.args.key true c.args.left_above c.args.right_above c.whole_sum-left_sum.result c.whole_sum-right_sum.result c.half_of-left_half.result c.half_of-right_half.result is c.whole_sum-left_sum.ensures c.whole_sum-right_sum.ensures c.in-None.ensures c.half_of-left_half.ensures c.half_of-right_half.ensures in
    let first = c.in_ok-multiply_below-in-None.ensures.product f g (rw c.child-first.ensures left) in
    let second = filled f g (rw c.child-second.ensures right) in
    fills_children (product f g) c.args.key c.args.sums.now c.multiply_below.new.sums c.multiply_below-in-None.new.sums cut.left
    (rw c.child-first.ensures at first) (rw c.child-second.ensures at second)
    )) c.multiply_below-in-None.ensures.product

pub returns-in_ok-multiply_below-in-None-clause-within : goal.returns-in_ok-multiply_below-in-None-clause-within
returns-in_ok-multiply_below-in-None-clause-within t c =
    on_ok_weaker c.multiply_below-in-None.result (λ within f g is. (
    let cut = cut_in_product f g c.args.left.now c.args.right.now c.args.depth c.args.key c.args.left_above c.args.right_above c.whole_sum-left_sum.result c.whole_sum-right_sum.result is c.whole_sum-left_sum.ensures c.whole_sum-right_sum.ensures c.in-None.ensures in
    let left = child_to_multiply f g c.args.left.now c.args.right.now c.args.depth c.args.key false c.args.left_above c.args.right_above c.whole_sum-left_sum.result c.whole_sum-right_sum.result c.half_of-left_half.result c.half_of-right_half.result is c.whole_sum-left_sum.ensures c.whole_sum-right_sum.ensures c.in-None.ensures c.half_of-left_half.ensures c.half_of-right_half.ensures in
    let right = child_to_multiply f g c.args.left.now c.args.right.now c.args.depth c.args.key true c.args.left_above c.args.right_above c.whole_sum-left_sum.result c.whole_sum-right_sum.result c.half_of-left_half.result c.half_of-right_half.result is c.whole_sum-left_sum.ensures c.whole_sum-right_sum.ensures c.in-None.ensures c.half_of-left_half.ensures c.half_of-right_half.ensures in
    let first = c.in_ok-multiply_below-in-None.ensures.within f g (rw c.child-first.ensures left) in
    let second = within f g (rw c.child-second.ensures right) in
    halves_have_values (product f g) c.args.key cut.left (rw c.child-first.ensures at first) (rw c.child-second.ensures at second)
    )) c.multiply_below-in-None.ensures.within

pub returns-in_ok-multiply_below-in-None-clause-over : goal.returns-in_ok-multiply_below-in-None-clause-over
returns-in_ok-multiply_below-in-None-clause-over t c = λ over f g is.
    let child = child_to_multiply f g c.args.left.now c.args.right.now c.args.depth c.args.key true c.args.left_above c.args.right_above c.whole_sum-left_sum.result c.whole_sum-right_sum.result c.half_of-left_half.result c.half_of-right_half.result is c.whole_sum-left_sum.ensures c.whole_sum-right_sum.ensures c.in-None.ensures c.half_of-left_half.ensures c.half_of-right_half.ensures in
    c.multiply_below-in-None.ensures.over over f g (rw c.child-second.ensures child)
