use Rattle.tree_model.specs.StoredTrees.{leaf_sum_at}
use Rattle.tree_model.specs.Operations.{refined}
use Rattle.tree_operations.proofs.RootLemmas.{filled, no_sum_outside, root_to_refine, refined_is_sound}
use Rattle.tree_operations.proofs.operations.refine.Goals as goal

pub refine_below-requires : goal.refine_below-requires
refine_below-requires c = (c.requires.0, rw c.root.ensures (root_to_refine c.requires.0 c.requires.1 c.args.leaves.now c.args.level c.requires.2 c.requires.3))

pub returns : goal.returns
returns c = λ t depth is within.
    let sound = refined_is_sound c.args.level t is.keeps.sound in
    let fills = c.in_ok-refine_below.ensures t (rw c.root.ensures (root_to_refine t depth c.args.leaves.now c.args.level is within)) in
    record {
      keeps = record {
        sound = sound;
        at = filled (leaf_sum_at (refined c.args.level t)) c.new-sums.result c.refine_below.new.sums c.new-sums.ensures.empty (λ k outside. no_sum_outside (refined c.args.level t) k sound.tree outside) (rw c.root.ensures at fills);
      };
      deep = is.deep;
    }
