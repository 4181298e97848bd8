use Rattle.std.proofs.Common.{length}
use Rattle.event_search.proofs.items.+load_of.Given as goal

abbrev pub decreases-load_of : goal.decreases-load_of
decreases-load_of l = length l.marks.now
