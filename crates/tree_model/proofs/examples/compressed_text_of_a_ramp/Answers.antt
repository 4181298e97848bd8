use Rattle.std.proofs.Common.{refl}
use Rattle.std.specs.Fmt.{digits}
use Rattle.tree_model.proofs.examples.compressed_text_of_a_ramp.Goals as goal

pub returns : goal.returns
unfolding digits
returns c = refl
