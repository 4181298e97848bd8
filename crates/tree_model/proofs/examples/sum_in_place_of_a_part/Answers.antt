use Rattle.std.proofs.Common.{refl}
use Rattle.std.specs.Fmt.{digits}
use Rattle.tree_model.proofs.examples.sum_in_place_of_a_part.Goals as goal

pub returns : goal.returns
unfolding digits
returns c = refl
