use Rattle.std.proofs.Common.{length}
use Rattle.event_search.proofs.dues.+lacks_one.Given as goal

abbrev pub decreases-lacks_one : goal.decreases-lacks_one
decreases-lacks_one l = length l.needs.now
