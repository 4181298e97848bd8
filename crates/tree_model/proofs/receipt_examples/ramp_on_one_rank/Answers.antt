use Rattle.std.proofs.Common.{refl}
use Rattle.std.specs.Fmt.{digits}
use Rattle.tree_model.proofs.receipt_examples.ramp_on_one_rank.Goals as goal

pub returns : goal.returns
unfolding digits
returns c = refl
