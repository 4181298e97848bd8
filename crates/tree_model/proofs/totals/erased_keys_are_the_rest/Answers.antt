use Rattle.tree_model.proofs.CutLemmas.{erased_keys, erased_cuts}
use Rattle.tree_model.proofs.totals.erased_keys_are_the_rest.Goals as goal

pub returns-clause-keys : goal.returns-clause-keys
returns-clause-keys c = erased_keys

pub returns-clause-cuts : goal.returns-clause-cuts
returns-clause-cuts c = erased_cuts
