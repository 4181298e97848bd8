use Rattle.std.proofs.Common.{◌∙◌, rules, sym, ap}
use Rattle.tree_model.specs.Trees.{box_sum}
use Rattle.tree_model.specs.StoredTrees.{leaf_sum_at}
use Rattle.tree_operations.proofs.StoredNumberLemmas.{passed}
use Rattle.tree_operations.proofs.RootLemmas.{filled, no_sum_outside}
use Rattle.tree_operations.proofs.operations.reconstruct.Goals as goal

pub returns : goal.returns
returns c = λ t depth is.
    let top = is.keeps.sound.tree.shape.root in
    record {
      keeps = record {
        sound = is.keeps.sound;
        at = filled (leaf_sum_at t) c.new-leaves.result c.reconstruct_below.new.leaves c.new-leaves.ensures.empty (λ k outside. no_sum_outside t k is.keeps.sound.tree outside) (rw c.root.ensures at (c.in_ok-reconstruct_below.ensures t is.keeps (rw c.root.ensures top) (passed c.args.tree.now.sum (search rules) ∙ is.all ∙ ap (box_sum t) (sym c.root.ensures))));
      };
      deep = is.deep;
    }
