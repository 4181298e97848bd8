use Rattle.std.proofs.Common.{◌∙◌, rules, sym, to_z, of_z, w64}
use Rattle.tree_key.specs.Keys.{root}
use Rattle.tree_model.specs.StoredTrees.{difference_at}
use Rattle.tree_model.specs.Operations.{weighted_sum}
use Rattle.tree_operations.proofs.AddingLemmas.{small_sum, sum_is_tree, sum_over, roots_kept}
use Rattle.tree_operations.proofs.StoredNumberLemmas.{passed}
use Rattle.tree_operations.specs.declared.command_error.CommandError.TheVariants.{Overflow}
use Rattle.tree_operations.proofs.ResultLemmas.{handed_on_error}
use Rattle.tree_operations.proofs.RootLemmas.{filled, no_difference_outside, values_from_leaves}
use Rattle.tree_operations.proofs.operations.add.Goals as goal

pub add_below-requires : goal.add_below-requires
add_below-requires c =
    let trees = c.requires.trees in
    (trees.0, trees.1, rw c.root.ensures (roots_kept trees.0 trees.1 c.args.left.now.differences c.args.right.now.differences c.args.depth c.args.left.now.sum c.args.right.now.sum trees.2 trees.3 (search rules) (search rules)))

pub returns-in_err-add_below-clause-over : goal.returns-in_err-add_below-clause-over
returns-in_err-add_below-clause-over c = λ is f g first second.
    let at = roots_kept f g c.args.left.now.differences c.args.right.now.differences c.args.depth c.args.left.now.sum c.args.right.now.sum first second (search rules) (search rules) in
    rw (passed c.args.left_factor (search rules), passed c.args.right_factor (search rules)) at (c.add_below.ensures.over (handed_on_error c.from_residual.result c.add_below.result Overflow c.in_err-add_below.field-0.0 c.from_residual.ensures.1 c.in_err-add_below.was is) f g (rw c.root.ensures at))

pub weighted-requires-clause-left : goal.weighted-requires-clause-left
weighted-requires-clause-left c =
    let trees = c.requires.trees in
    rw (passed c.args.left.now.sum (search rules)) (small_sum trees.0 root c.args.left.now.sum trees.2.keeps.sound trees.2.all)

pub weighted-requires-clause-right : goal.weighted-requires-clause-right
weighted-requires-clause-right c =
    let trees = c.requires.trees in
    rw (passed c.args.right.now.sum (search rules)) (small_sum trees.1 root c.args.right.now.sum trees.3.keeps.sound trees.3.all)

pub returns-clause-sum : goal.returns-clause-sum
returns-clause-sum c = λ f g first second.
    let at = roots_kept f g c.args.left.now.differences c.args.right.now.differences c.args.depth c.args.left.now.sum c.args.right.now.sum first second (search rules) (search rules) in
    let t = weighted_sum c.args.left_factor f c.args.right_factor g in
    let tree = sum_is_tree c.args.left_factor f c.args.right_factor g c.args.left.now.differences c.args.right.now.differences c.args.depth at.kept in
    let values = values_from_leaves t tree (rw (passed c.args.left_factor (search rules), passed c.args.right_factor (search rules), c.root.ensures) at (c.in_ok-add_below.ensures.within f g (rw c.root.ensures at))) in
    let all = sum_over c.args.left_factor f c.args.right_factor g c.args.left.now.differences c.args.right.now.differences c.args.depth root (to_z w64 (of_z w64 c.args.left.now.sum)) (to_z w64 (of_z w64 c.args.right.now.sum)) at in
    record {
      keeps = record {
        sound = record { tree = tree; values = values.0; depth = rw first.deep c.requires.depth };
        at = filled (difference_at t) c.new-differences.result c.add_below.new.differences c.new-differences.ensures.empty (λ k outside. no_difference_outside t k tree outside) (rw (passed c.args.left_factor (search rules), passed c.args.right_factor (search rules), c.root.ensures) at (c.in_ok-add_below.ensures.differences f g (rw c.root.ensures at)));
      };
      all = passed c.weighted.result (search rules) ∙ (rw (passed c.args.left_factor (search rules), passed c.args.right_factor (search rules)) at c.weighted.ensures) ∙ sym all;
      deep = first.deep;
    }
