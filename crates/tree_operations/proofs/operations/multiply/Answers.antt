use Rattle.tree_model.specs.StoredTrees.{leaf_sum_at}
use Rattle.tree_model.specs.Operations.{product}
use Rattle.tree_operations.specs.declared.command_error.CommandError.TheVariants.{Overflow}
use Rattle.tree_operations.proofs.ResultLemmas.{handed_on_error}
use Rattle.tree_operations.proofs.RootLemmas.{filled, no_sum_outside, root_to_multiply, product_is_sound}
use Rattle.tree_operations.proofs.operations.multiply.Goals as goal

pub multiply_below-requires : goal.multiply_below-requires
multiply_below-requires c = (c.requires.0, c.requires.1, rw c.root.ensures (root_to_multiply c.requires.0 c.requires.1 c.args.depth c.args.left.now c.args.right.now c.requires.2 c.requires.3))

pub returns-in_err-multiply_below-clause-over : goal.returns-in_err-multiply_below-clause-over
returns-in_err-multiply_below-clause-over c = λ is f g first second.
    c.multiply_below.ensures.over (handed_on_error c.from_residual.result c.multiply_below.result Overflow c.in_err-multiply_below.field-0.0 c.from_residual.ensures.1 c.in_err-multiply_below.was is) f g (rw c.root.ensures (root_to_multiply f g c.args.depth c.args.left.now c.args.right.now first second))

pub returns-clause-product : goal.returns-clause-product
returns-clause-product c = λ f g first second.
    let at = root_to_multiply f g c.args.depth c.args.left.now c.args.right.now first second in
    let within = c.in_ok-multiply_below.ensures.within f g (rw c.root.ensures at) in
    let sound = product_is_sound f g c.args.depth c.args.left.now c.args.right.now first second (rw c.root.ensures at within) in
    let fills = c.in_ok-multiply_below.ensures.product f g (rw c.root.ensures at) in
    record {
      keeps = record {
        sound = sound;
        at = filled (leaf_sum_at (product f g)) c.new-sums.result c.multiply_below.new.sums c.new-sums.ensures.empty (λ k outside. no_sum_outside (product f g) k sound.tree outside) (rw c.root.ensures at fills);
      };
      deep = first.deep;
    }
