use Rattle.tree_model.proofs.StoredTreeLemmas.{projections_with_values, refined_have_values}
use Rattle.tree_model.proofs.stored.projections_have_values.Goals as goal

pub returns-clause-projections : goal.returns-clause-projections
returns-clause-projections c = projections_with_values

pub returns-clause-refined : goal.returns-clause-refined
returns-clause-refined c = refined_have_values
