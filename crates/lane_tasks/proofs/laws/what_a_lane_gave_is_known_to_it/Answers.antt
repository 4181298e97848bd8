use Rattle.lane_tasks.proofs.GivenLemmas.{given_is_known}
use Rattle.lane_tasks.proofs.laws.what_a_lane_gave_is_known_to_it.Goals as goal

pub returns : goal.returns
returns g c = λ words label future f old new grew due. given_is_known words (g.A.Facts.may_do words.app) label future f old new grew due
