use Rattle.haar_units.proofs.JobTraversalLemmas.{jobs_traversed, holds_trees, sizes_add_up}
use Rattle.haar_units.proofs.ReadLemmas.{reads_versions}
use Rattle.haar_units.proofs.laws.jobs_are_traversed.Goals as goal

pub returns-clause-shapes : goal.returns-clause-shapes
returns-clause-shapes c = λ distribution depth commands number keys at. jobs_traversed distribution depth commands number keys at

pub returns-clause-holds : goal.returns-clause-holds
returns-clause-holds c = λ distribution depth commands number version rank at. holds_trees distribution depth commands number version rank at

pub returns-clause-sizes : goal.returns-clause-sizes
returns-clause-sizes c = λ distribution depth commands number version within at. sizes_add_up distribution depth commands number version within at

pub returns-clause-reads : goal.returns-clause-reads
returns-clause-reads c = λ depth commands number name number_of_version version last at. reads_versions depth commands number name number_of_version version last at
