use Rattle.tree_model.proofs.CutLemmas.{intersection_shape, common_interior}
use Rattle.tree_model.proofs.totals.intersections_are_shapes.Goals as goal

pub returns-clause-shape : goal.returns-clause-shape
returns-clause-shape c = intersection_shape

pub returns-clause-interior : goal.returns-clause-interior
returns-clause-interior c = common_interior
