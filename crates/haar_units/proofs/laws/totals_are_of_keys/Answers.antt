use Rattle.haar_units.proofs.KeyCountLemmas.{totals_of_keys, sizes_of_ranks}
use Rattle.haar_units.proofs.laws.totals_are_of_keys.Goals as goal

pub returns-clause-trees : goal.returns-clause-trees
returns-clause-trees c = λ distribution job traversal depth command operation keys is tree over. totals_of_keys distribution job traversal depth command operation keys is tree over

pub returns-clause-sizes : goal.returns-clause-sizes
returns-clause-sizes c = λ distribution job traversal bound command is. sizes_of_ranks distribution job traversal bound command is
