use Rattle.std.proofs.Common.{true, false, sym, ◌∙◌, ap, rules, Some}
use Rattle.tree_key.specs.Keys.{child}
use Rattle.tree_model.specs.StoredTrees.{difference_at}
use Rattle.tree_operations.proofs.FillingLemmas.{fills_nothing, fills_all}
use Rattle.tree_operations.proofs.StoredNumberLemmas.{leaf_with, children_where_no_leaf, difference_there, no_differences, passed_small, joined_sum, joined_difference}
use Rattle.tree_operations.proofs.compressing.+compress_below.Goals as goal

pub returns-in-Some-clause-differences : goal.returns-in-Some-clause-differences
returns-in-Some-clause-differences t c = λ tree keeps inside.
    let leaf = leaf_with tree c.args.leaves.now c.args.key c.in-Some.sum keeps (sym c.in-Some.ensures) in
    fills_nothing c.args.key (difference_at tree) c.args.differences.now (λ k under. no_differences tree c.args.key k keeps.sound leaf.none under)

pub join-sum-requires-clause-left : goal.join-sum-requires-clause-left
join-sum-requires-clause-left t c =
    let tree = c.requires.0 in
    let keeps = c.requires.1 in
    let children = children_where_no_leaf tree c.args.leaves.now c.args.key keeps c.requires.2 (sym c.in-None.ensures) in
    let sum = c.in_ok-left-in-None.ensures.sum tree keeps (rw c.child.ensures children.left) in
    passed_small tree (child c.args.key false) c.in_ok-left-in-None.left keeps.sound (search rules) (rw c.child.ensures at sum)

pub join-sum-requires-clause-right : goal.join-sum-requires-clause-right
join-sum-requires-clause-right t c =
    let tree = c.requires.0 in
    let keeps = c.requires.1 in
    let children = children_where_no_leaf tree c.args.leaves.now c.args.key keeps c.requires.2 (sym c.in-None.ensures) in
    let sum = c.in_ok-right-in-None.ensures.sum tree keeps (rw c.child-in-None.ensures children.right) in
    passed_small tree (child c.args.key true) c.in_ok-right-in-None.right keeps.sound (search rules) (rw c.child-in-None.ensures at sum)

pub returns-in_ok-set_number-in-None-clause-sum : goal.returns-in_ok-set_number-in-None-clause-sum
returns-in_ok-set_number-in-None-clause-sum t c = λ tree keeps inside.
    let children = children_where_no_leaf tree c.args.leaves.now c.args.key keeps inside (sym c.in-None.ensures) in
    let left = c.in_ok-left-in-None.ensures.sum tree keeps (rw c.child.ensures children.left) in
    let right = c.in_ok-right-in-None.ensures.sum tree keeps (rw c.child-in-None.ensures children.right) in
    joined_sum tree c.args.key c.join-sum.result.0 c.in_ok-left-in-None.left c.in_ok-right-in-None.right children.above (search rules) (search rules) (search rules) (rw c.child.ensures at left) (rw c.child-in-None.ensures at right) c.join-sum.ensures.sum

pub returns-in_ok-set_number-in-None-clause-differences : goal.returns-in_ok-set_number-in-None-clause-differences
returns-in_ok-set_number-in-None-clause-differences t c = λ tree keeps inside.
    let children = children_where_no_leaf tree c.args.leaves.now c.args.key keeps inside (sym c.in-None.ensures) in
    let left = c.in_ok-left-in-None.ensures.sum tree keeps (rw c.child.ensures children.left) in
    let right = c.in_ok-right-in-None.ensures.sum tree keeps (rw c.child-in-None.ensures children.right) in
    let number = joined_difference tree c.args.key c.join-sum.result.1 c.in_ok-left-in-None.left c.in_ok-right-in-None.right (search rules) (search rules) (search rules) (rw c.child.ensures at left) (rw c.child-in-None.ensures at right) c.join-sum.ensures.difference in
    let first = c.in_ok-left-in-None.ensures.differences tree keeps (rw c.child.ensures children.left) in
    let second = c.in_ok-right-in-None.ensures.differences tree keeps (rw c.child-in-None.ensures children.right) in
    fills_all c.args.key (difference_at tree) _ c.args.differences.now c.compress_below.new.differences c.compress_below-in-None.new.differences c.set_number.new.numbers
    (difference_there tree c.args.key inside children.left ∙ ap Some (sym number))
    (rw c.child.ensures at first) (rw c.child-in-None.ensures at second) c.in_ok-set_number-in-None.ensures
