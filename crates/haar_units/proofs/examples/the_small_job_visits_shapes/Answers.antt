use Rattle.haar_units.proofs.SmallJobLemmas.{small_traversals}
use Rattle.haar_units.proofs.examples.the_small_job_visits_shapes.Goals as goal

pub returns : goal.returns
returns c = λ command operation at tree. small_traversals command operation at tree
