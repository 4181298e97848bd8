use Rattle.std.proofs.Common.{◌∙◌}
use Rattle.tree_key.specs.Keys.{root}
use Rattle.tree_model.specs.StoredTrees.{leaf_sum_at}
use Rattle.tree_model.specs.Operations.{coarsened}
use Rattle.tree_operations.proofs.BelowFillingLemmas.{fills_with_top}
use Rattle.tree_operations.proofs.CoarseningLemmas.{coarsened_is_sound, sum_of_root}
use Rattle.tree_operations.proofs.RootLemmas.{filled, no_sum_outside}
use Rattle.tree_operations.proofs.operations.coarsen.Goals as goal

pub returns : goal.returns
returns c = λ t depth is.
    let top = is.keeps.sound.tree.shape.root in
    let sound = coarsened_is_sound t is.keeps.sound in
    let deeper = rw c.root.ensures at (c.in_ok-all.ensures.leaves t is.keeps (rw c.root.ensures top)) in
    let sum = rw c.root.ensures at (c.in_ok-all.ensures.sum t is.keeps (rw c.root.ensures top)) in
    let set = rw c.root-2.ensures at c.in_ok-set_if_some.ensures in
    let fills = fills_with_top root (leaf_sum_at (coarsened t)) c.in_ok-all.all c.new-sums.result c.coarsen_below.new.sums c.set_if_some.new.numbers deeper set (sum ∙ sum_of_root t is.keeps.sound.tree) in
    record {
      keeps = record {
        sound = sound;
        at = filled (leaf_sum_at (coarsened t)) c.new-sums.result c.set_if_some.new.numbers c.new-sums.ensures.empty (λ k outside. no_sum_outside (coarsened t) k sound.tree outside) fills;
      };
      deep = is.deep;
    }
