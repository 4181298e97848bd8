use Rattle.haar_lists.proofs.PlannedLemmas.{units_planned}
use Rattle.haar_lists.proofs.laws.sound_units_are_planned.Goals as goal

pub returns : goal.returns
returns c = λ job command planned sound. units_planned job command planned sound
