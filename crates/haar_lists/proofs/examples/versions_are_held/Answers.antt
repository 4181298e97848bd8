use Rattle.haar_lists.proofs.SmallListLemmas.{is_planned}
use Rattle.haar_lists.proofs.examples.versions_are_held.Goals as goal

pub returns-clause-planned : goal.returns-clause-planned
returns-clause-planned c = is_planned
