use Rattle.std.proofs.Common.{refl, arith}
use Rattle.small_app.specs.declared.unit.Unit.TheVariants.{Read, Count}
use Rattle.small_app.proofs.SmallRunLemmas.{last_is_unsound}
use Rattle.small_app.proofs.examples.other_premises_are_met.Goals as goal

pub returns-clause-read : goal.returns-clause-read
returns-clause-read c = (Read, tt, refl, (0, omega arith, refl))

pub returns-clause-counted : goal.returns-clause-counted
returns-clause-counted c = (Count, tt, refl, refl)

pub returns-clause-dropped : goal.returns-clause-dropped
returns-clause-dropped c = (0, omega arith, refl)

pub returns-clause-unwritten : goal.returns-clause-unwritten
returns-clause-unwritten c = last_is_unsound
