use Rattle.std.proofs.Common.{refl}
use Rattle.std.specs.Fmt.{digits}
use Rattle.tree_model.proofs.receipt_examples.constant_refined_and_coarsened.Goals as goal

pub returns : goal.returns
unfolding digits
returns c = refl
