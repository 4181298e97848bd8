use Rattle.std.proofs.Common.{refl}
use Rattle.std.specs.Fmt.{digits}
use Rattle.tree_model.proofs.examples.product_overflows.Goals as goal

pub returns : goal.returns
unfolding digits
returns c = refl
