use Rattle.std.proofs.Common.{refl}
use Rattle.std.specs.Fmt.{digits}
use Rattle.tree_model.proofs.examples.product_is_within_the_limit.Goals as goal

pub returns : goal.returns
unfolding digits
returns c = record { text = refl; within = refl }
