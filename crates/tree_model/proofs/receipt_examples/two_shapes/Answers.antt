use Rattle.std.proofs.Common.{refl}
use Rattle.std.specs.Fmt.{digits}
use Rattle.tree_model.proofs.receipt_examples.two_shapes.Goals as goal

pub returns : goal.returns
unfolding digits
returns c = refl
