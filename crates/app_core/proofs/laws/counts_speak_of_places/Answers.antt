use Rattle.app_core.proofs.CountLemmas.{none_passes, one_is_there, one_place}
use Rattle.app_core.proofs.laws.counts_speak_of_places.Goals as goal

pub returns-clause-there : goal.returns-clause-there
returns-clause-there c = λ test os one. one_is_there test os one

pub returns-clause-one : goal.returns-clause-one
returns-clause-one c = λ test os i j a b one at passes at_j passes_j. one_place test os i j a b one at passes at_j passes_j

pub returns-clause-none : goal.returns-clause-none
returns-clause-none c = λ test os i o none at. none_passes test os i o none at
