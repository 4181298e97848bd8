use Rattle.event_lists.proofs.RefusedRunLemmas.{another_need, needed_twice, needed_beside_its_due, needed_its_due}
use Rattle.event_lists.proofs.refusals.needs_are_judged.Goals as goal

pub returns-clause-another_need : goal.returns-clause-another_need
returns-clause-another_need c = another_need

pub returns-clause-need_of_two_spawns : goal.returns-clause-need_of_two_spawns
returns-clause-need_of_two_spawns c = needed_twice

pub returns-clause-not_the_own_due : goal.returns-clause-not_the_own_due
returns-clause-not_the_own_due c = needed_beside_its_due

pub returns-clause-the_own_due : goal.returns-clause-the_own_due
returns-clause-the_own_due c = needed_its_due
