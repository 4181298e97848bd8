use Rattle.tree_operations.specs.Projecting.{projection_of}
use Rattle.tree_operations.proofs.RootLemmas.{keeps_projection}
use Rattle.tree_operations.proofs.operations.project.Goals as goal

pub returns : goal.returns
returns c = keeps_projection c.args.depth (projection_of c.args.function c.args.level c.args.tolerance) c.in_ok-leaves.field-0 c.requires.depth c.requires.fits c.in_ok-leaves.ensures
