use Rattle.haar_units.proofs.ShapeLemmas.{traversals_of_keys}
use Rattle.haar_units.proofs.laws.keys_are_traversals.Goals as goal

pub returns : goal.returns
returns c = λ job traversal depth command keys are over in_coarsen. traversals_of_keys job traversal depth command keys are over in_coarsen
