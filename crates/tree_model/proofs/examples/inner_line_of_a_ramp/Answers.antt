use Rattle.std.proofs.Common.{refl}
use Rattle.std.specs.Fmt.{digits}
use Rattle.tree_model.proofs.examples.inner_line_of_a_ramp.Goals as goal

pub returns : goal.returns
unfolding digits
returns c = refl
