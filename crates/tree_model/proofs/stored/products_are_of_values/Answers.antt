use Rattle.tree_model.proofs.StoredTreeLemmas.{products_of_values, products_overflow}
use Rattle.tree_model.proofs.stored.products_are_of_values.Goals as goal

pub returns-clause-sum : goal.returns-clause-sum
returns-clause-sum c = products_of_values

pub returns-clause-over : goal.returns-clause-over
returns-clause-over c = products_overflow
