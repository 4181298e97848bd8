use Rattle.std.proofs.Common.{◌<◌, rules, arith, true, false}
use Rattle.std.proofs.lemmas.Result.{on_ok_weaker}
use Rattle.tree_model.specs.Operations.{refined}
use Rattle.tree_operations.proofs.LeafFillingLemmas.{fills_children}
use Rattle.tree_operations.proofs.RefiningLemmas.{cut_in_refined, child_to_refine, refined_leaf_set}
use Rattle.tree_operations.proofs.refining.+refine_below.Goals as goal

pub child-requires : goal.child-requires
child-requires t c =
    let cut = cut_in_refined c.args.level c.requires.0 c.args.leaves.now c.args.key c.args.above c.whole_sum-whole.result c.requires.1 c.whole_sum-whole.ensures c.in-None.ensures in
    omega (arith, cut.above, c.requires.1.keeps.sound.depth)

pub refine_below-requires : goal.refine_below-requires
refine_below-requires t c =
    let cut = cut_in_refined c.args.level c.requires.0 c.args.leaves.now c.args.key c.args.above c.whole_sum-whole.result c.requires.1 c.whole_sum-whole.ensures c.in-None.ensures in
    let deep : c.args.key.level < 16 = omega (arith, cut.above, c.requires.1.keeps.sound.depth) in
    let child = child_to_refine c.args.level c.requires.0 c.args.leaves.now c.args.key false c.args.above c.whole_sum-whole.result c.half_of-half.result c.requires.1 c.whole_sum-whole.ensures c.in-None.ensures c.half_of-half.ensures in
    (search rules, (c.requires.0, rw c.child.ensures child))

pub refine_below-requires-in-None : goal.refine_below-requires-in-None
refine_below-requires-in-None t c =
    let cut = cut_in_refined c.args.level c.requires.0 c.args.leaves.now c.args.key c.args.above c.whole_sum-whole.result c.requires.1 c.whole_sum-whole.ensures c.in-None.ensures in
    let deep : c.args.key.level < 16 = omega (arith, cut.above, c.requires.1.keeps.sound.depth) in
    let child = child_to_refine c.args.level c.requires.0 c.args.leaves.now c.args.key true c.args.above c.whole_sum-whole.result c.half_of-half.result c.requires.1 c.whole_sum-whole.ensures c.in-None.ensures c.half_of-half.ensures in
    (search rules, (c.requires.0, rw c.child-in-None.ensures child))

pub returns-in-Some : goal.returns-in-Some
returns-in-Some t c =
    on_ok_weaker c.set_number.result (λ set tree is. refined_leaf_set c.args.level tree c.args.leaves.now c.args.key c.args.above c.whole_sum-whole.result c.in-Some.sum c.args.sums.now c.set_number.new.numbers (search rules) is c.whole_sum-whole.ensures c.in-Some.ensures set) c.set_number.ensures

pub returns-in_ok-refine_below-in-None : goal.returns-in_ok-refine_below-in-None
returns-in_ok-refine_below-in-None t c =
    on_ok_weaker c.refine_below-in-None.result (λ filled tree is. (
    let cut = cut_in_refined c.args.level tree c.args.leaves.now c.args.key c.args.above c.whole_sum-whole.result is c.whole_sum-whole.ensures c.in-None.ensures in
    let left = child_to_refine c.args.level tree c.args.leaves.now c.args.key false c.args.above c.whole_sum-whole.result c.half_of-half.result is c.whole_sum-whole.ensures c.in-None.ensures c.half_of-half.ensures in
    let right = child_to_refine c.args.level tree c.args.leaves.now c.args.key true c.args.above c.whole_sum-whole.result c.half_of-half.result is c.whole_sum-whole.ensures c.in-None.ensures c.half_of-half.ensures in
    let first = c.in_ok-refine_below-in-None.ensures tree (rw c.child.ensures left) in
    let second = filled tree (rw c.child-in-None.ensures right) in
    fills_children (refined c.args.level tree) c.args.key c.args.sums.now c.refine_below.new.sums c.refine_below-in-None.new.sums cut.left
    (rw c.child.ensures at first) (rw c.child-in-None.ensures at second)
    )) c.refine_below-in-None.ensures
