use Rattle.std.proofs.Common.{length}
use Rattle.event_search.proofs.dues.+lacks_dues.Given as goal

abbrev pub decreases-lacks_dues : goal.decreases-lacks_dues
decreases-lacks_dues l = length l.marks.now
