use Rattle.lane_tasks.proofs.GivenLemmas.{needs_by_hand}
use Rattle.lane_tasks.proofs.laws.submitted_needs_are_by_what_is_in_hand.Goals as goal

pub returns : goal.returns
returns g c = λ words number unit needs due f old new grew. needs_by_hand words (g.A.Facts.may_do words.app) number unit needs due f old new grew
