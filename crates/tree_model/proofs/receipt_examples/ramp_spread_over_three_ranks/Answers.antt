use Rattle.std.proofs.Common.{refl}
use Rattle.std.specs.Fmt.{digits}
use Rattle.tree_model.proofs.receipt_examples.ramp_spread_over_three_ranks.Goals as goal

pub returns : goal.returns
unfolding digits
returns c = refl
