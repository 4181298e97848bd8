use Rattle.std.proofs.Common.{refl}
use Rattle.words_bench.proofs.visit.Goals as goal

pub run_unit-requires-clause-may : goal.run_unit-requires-clause-may
run_unit-requires-clause-may g c = (record { to = 1 }, refl, refl)
