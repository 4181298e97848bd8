use Rattle.std.proofs.Common.{refl}
use Rattle.std.specs.Fmt.{digits}
use Rattle.tree_model.proofs.examples.constant_refined_and_printed.Goals as goal

pub returns : goal.returns
unfolding digits
returns c = refl
