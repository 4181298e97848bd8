use Rattle.tree_model.proofs.CutLemmas.{cuts_below_interior, cuts_above_leaves}
use Rattle.tree_model.proofs.totals.cuts_are_counted_by_leaves.Goals as goal

pub returns-clause-interior : goal.returns-clause-interior
returns-clause-interior c = cuts_below_interior

pub returns-clause-leaves : goal.returns-clause-leaves
returns-clause-leaves c = cuts_above_leaves
