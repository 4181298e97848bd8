use Rattle.std.proofs.Common.{refl}
use Rattle.tree_model.specs.Mix.{state, output}
use Rattle.tree_model.proofs.examples.hashes.Goals as goal

pub returns-clause-first : goal.returns-clause-first
unfolding state output
returns-clause-first c = refl

pub returns-clause-second : goal.returns-clause-second
unfolding state output
returns-clause-second c = refl

pub returns-clause-value : goal.returns-clause-value
unfolding state output
returns-clause-value c = refl
