use Rattle.std.proofs.Common.{length}
use Rattle.event_search.proofs.items.+spawner_of.Given as goal

abbrev pub decreases-spawner_of : goal.decreases-spawner_of
decreases-spawner_of l = length l.marks.now
