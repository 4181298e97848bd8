use Rattle.haar_lists.proofs.SmallRunFollowsLemmas.{halves_planned, run, first_received, second_received, all_sound}
use Rattle.haar_lists.proofs.examples.a_run_of_two_fences_follows.Goals as goal

pub returns-clause-planned : goal.returns-clause-planned
returns-clause-planned c = halves_planned

pub returns-clause-run : goal.returns-clause-run
returns-clause-run c = run

pub returns-clause-first : goal.returns-clause-first
returns-clause-first c = first_received

pub returns-clause-second : goal.returns-clause-second
returns-clause-second c = second_received

pub returns-clause-sound : goal.returns-clause-sound
returns-clause-sound c = all_sound
