use Rattle.small_app.proofs.SmallRunLemmas.{run, received, all_sound}
use Rattle.small_app.proofs.examples.a_run_up_to_a_fence_follows.Goals as goal

pub returns-clause-run : goal.returns-clause-run
returns-clause-run c = run

pub returns-clause-receipt : goal.returns-clause-receipt
returns-clause-receipt c = received

pub returns-clause-sound : goal.returns-clause-sound
returns-clause-sound c = all_sound
