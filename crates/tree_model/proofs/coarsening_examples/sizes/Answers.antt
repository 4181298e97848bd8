use Rattle.std.proofs.Common.{refl}
use Rattle.std.specs.Fmt.{digits}
use Rattle.tree_model.proofs.coarsening_examples.sizes.Goals as goal

pub returns-clause-full : goal.returns-clause-full
unfolding digits
returns-clause-full c = refl

pub returns-clause-mixed : goal.returns-clause-mixed
unfolding digits
returns-clause-mixed c = refl

pub returns-clause-leaf : goal.returns-clause-leaf
unfolding digits
returns-clause-leaf c = refl
