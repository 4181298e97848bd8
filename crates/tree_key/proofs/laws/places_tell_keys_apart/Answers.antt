use Rattle.tree_key.proofs.OrderLemmas.{places_differ, places_are_in_range, places_are_in_order}
use Rattle.tree_key.proofs.laws.places_tell_keys_apart.Goals as goal

pub returns-clause-differ : goal.returns-clause-differ
returns-clause-differ _ = places_differ

pub returns-clause-range : goal.returns-clause-range
returns-clause-range _ = places_are_in_range

pub returns-clause-order : goal.returns-clause-order
returns-clause-order _ = places_are_in_order
