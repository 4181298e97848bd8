use Rattle.haar_units.proofs.HeldKeyLemmas.{holds_of_keys, counts_add_up}
use Rattle.haar_units.proofs.laws.holds_are_of_keys.Goals as goal

pub returns-clause-keys : goal.returns-clause-keys
returns-clause-keys c = λ distribution job traversal depth version keys rank is over. holds_of_keys distribution job traversal depth version keys rank is over

pub returns-clause-sum : goal.returns-clause-sum
returns-clause-sum c = λ distribution depth keys within. counts_add_up distribution depth keys within
