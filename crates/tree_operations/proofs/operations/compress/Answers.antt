use Rattle.std.proofs.Common.{◌∙◌, rules}
use Rattle.tree_model.specs.StoredTrees.{difference_at}
use Rattle.tree_operations.proofs.StoredNumberLemmas.{passed}
use Rattle.tree_operations.proofs.RootLemmas.{filled, no_difference_outside}
use Rattle.tree_operations.proofs.operations.compress.Goals as goal

pub returns : goal.returns
returns c = λ t depth is.
    let top = is.keeps.sound.tree.shape.root in
    record {
      keeps = record {
        sound = is.keeps.sound;
        at = filled (difference_at t) c.new-differences.result c.compress_below.new.differences c.new-differences.ensures.empty (λ k outside. no_difference_outside t k is.keeps.sound.tree outside) (rw c.root.ensures at (c.in_ok-sum.ensures.differences t is.keeps (rw c.root.ensures top)));
      };
      all = passed c.in_ok-sum.sum (search rules) ∙ (rw c.root.ensures at (c.in_ok-sum.ensures.sum t is.keeps (rw c.root.ensures top)));
      deep = is.deep;
    }
