use Rattle.tree_model.proofs.CutLemmas.{keys_of_shapes}
use Rattle.tree_model.proofs.totals.shapes_are_counted_by_their_interior.Goals as goal

pub returns : goal.returns
returns c = keys_of_shapes
