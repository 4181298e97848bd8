use Rattle.std.proofs.Common.{refl}
use Rattle.std.specs.Fmt.{digits}
use Rattle.tree_model.proofs.coarsening_examples.coarsened_step.Goals as goal

pub returns : goal.returns
unfolding digits
returns c = refl
