use Rattle.std.proofs.Common.{refl}
use Rattle.std.specs.Fmt.{digits}
use Rattle.tree_model.proofs.examples.constant_on_one_cell.Goals as goal

pub returns : goal.returns
unfolding digits
returns c = refl
