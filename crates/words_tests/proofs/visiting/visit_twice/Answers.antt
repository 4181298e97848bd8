use Rattle.std.proofs.Common.{refl}
use Rattle.words_tests.proofs.visiting.visit_twice.Goals as goal

pub pass_working_fence-requires-clause-may : goal.pass_working_fence-requires-clause-may
pass_working_fence-requires-clause-may g c = ((record { to = 1 }, refl, refl), (record { to = 2 }, refl, refl))
