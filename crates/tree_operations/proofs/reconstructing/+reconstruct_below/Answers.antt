use Rattle.std.proofs.Common.{sym, ◌∙◌, ap, rules, Some, arith}
use Rattle.std.proofs.lemmas.Result.{on_ok_weaker}
use Rattle.tree_model.specs.StoredTrees.{leaf_sum_at}
use Rattle.tree_operations.proofs.FillingLemmas.{fills_top, fills_halves}
use Rattle.tree_operations.proofs.StoredNumberLemmas.{passed}
use Rattle.tree_operations.proofs.StoredDifferenceLemmas.{halves_with, no_child_there, leaf_sum_there, no_leaf_sums, no_leaf_sum, splits, half_on_the_left, half_on_the_right}
use Rattle.tree_operations.proofs.reconstructing.+reconstruct_below.Goals as goal

pub split-left-requires-clause-sum : goal.split-left-requires-clause-sum
split-left-requires-clause-sum t c =
    let keeps = c.requires.1 in
    let halves = halves_with c.requires.0 c.args.differences.now c.args.key c.in-Some.difference keeps (sym c.in-Some.ensures) in
    (splits c.requires.0 c.args.key c.args.sum c.in-Some.difference keeps.sound halves.above (search rules) (search rules) c.requires.3 halves.apart).sum

pub split-left-requires-clause-difference : goal.split-left-requires-clause-difference
split-left-requires-clause-difference t c =
    let keeps = c.requires.1 in
    let halves = halves_with c.requires.0 c.args.differences.now c.args.key c.in-Some.difference keeps (sym c.in-Some.ensures) in
    (splits c.requires.0 c.args.key c.args.sum c.in-Some.difference keeps.sound halves.above (search rules) (search rules) c.requires.3 halves.apart).apart

pub split-left-requires-clause-even : goal.split-left-requires-clause-even
split-left-requires-clause-even t c =
    let keeps = c.requires.1 in
    let halves = halves_with c.requires.0 c.args.differences.now c.args.key c.in-Some.difference keeps (sym c.in-Some.ensures) in
    (splits c.requires.0 c.args.key c.args.sum c.in-Some.difference keeps.sound halves.above (search rules) (search rules) c.requires.3 halves.apart).even

pub child-requires : goal.child-requires
child-requires t c =
    let keeps = c.requires.1 in
    let halves = halves_with c.requires.0 c.args.differences.now c.args.key c.in-Some.difference keeps (sym c.in-Some.ensures) in
    omega (arith, halves.above, keeps.sound.depth)

pub reconstruct_below-requires : goal.reconstruct_below-requires
reconstruct_below-requires t c =
    let tree = c.requires.0 in
    let keeps = c.requires.1 in
    let halves = halves_with tree c.args.differences.now c.args.key c.in-Some.difference keeps (sym c.in-Some.ensures) in
    let left = half_on_the_left tree c.args.key c.split-left.result.0 c.args.sum c.in-Some.difference halves.above (search rules) (search rules) (search rules) c.requires.3 halves.apart c.split-left.ensures.left in
    (search rules, (tree, keeps, rw c.child.ensures halves.left, rw c.child.ensures left))

pub reconstruct_below-requires-in-Some : goal.reconstruct_below-requires-in-Some
reconstruct_below-requires-in-Some t c =
    let tree = c.requires.0 in
    let keeps = c.requires.1 in
    let halves = halves_with tree c.args.differences.now c.args.key c.in-Some.difference keeps (sym c.in-Some.ensures) in
    let right = half_on_the_right tree c.args.key c.split-left.result.1 c.args.sum c.in-Some.difference halves.above (search rules) (search rules) (search rules) c.requires.3 halves.apart c.split-left.ensures.right in
    (search rules, (tree, keeps, rw c.child-in-Some.ensures halves.right, rw c.child-in-Some.ensures right))

pub returns-in_ok-reconstruct_below-in-Some : goal.returns-in_ok-reconstruct_below-in-Some
returns-in_ok-reconstruct_below-in-Some t c =
    on_ok_weaker c.reconstruct_below-in-Some.result (λ second. λ tree keeps inside sum.
    let halves = halves_with tree c.args.differences.now c.args.key c.in-Some.difference keeps (sym c.in-Some.ensures) in
    let left = half_on_the_left tree c.args.key c.split-left.result.0 c.args.sum c.in-Some.difference halves.above (search rules) (search rules) (search rules) sum halves.apart c.split-left.ensures.left in
    let right = half_on_the_right tree c.args.key c.split-left.result.1 c.args.sum c.in-Some.difference halves.above (search rules) (search rules) (search rules) sum halves.apart c.split-left.ensures.right in
    let filled = c.in_ok-reconstruct_below-in-Some.ensures tree keeps (rw c.child.ensures halves.left) (rw c.child.ensures left) in
    let both = second tree keeps (rw c.child-in-Some.ensures halves.right) (rw c.child-in-Some.ensures right) in
    fills_halves c.args.key (leaf_sum_at tree) c.args.leaves.now c.reconstruct_below.new.leaves c.reconstruct_below-in-Some.new.leaves
    (no_leaf_sum tree c.args.key inside halves.left) (rw c.child.ensures at filled) (rw c.child-in-Some.ensures at both))
    c.reconstruct_below-in-Some.ensures

pub returns-in-None : goal.returns-in-None
returns-in-None t c =
    on_ok_weaker c.set_number.result (λ written. λ tree keeps inside sum.
    let none = no_child_there tree c.args.differences.now c.args.key keeps inside (sym c.in-None.ensures) in
    fills_top c.args.key (leaf_sum_at tree) _ c.args.leaves.now c.set_number.new.numbers
    (leaf_sum_there tree c.args.key inside none ∙ ap Some (sym (passed c.args.sum c.ranges.sum ∙ sum)))
    (λ k under apart. no_leaf_sums tree c.args.key k keeps.sound none under apart) written)
    c.set_number.ensures
