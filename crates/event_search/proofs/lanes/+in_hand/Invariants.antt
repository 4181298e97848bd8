use Rattle.std.proofs.Common.{length}
use Rattle.event_search.proofs.lanes.+in_hand.Given as goal

abbrev pub decreases-in_hand : goal.decreases-in_hand
decreases-in_hand l = length l.marks.now
