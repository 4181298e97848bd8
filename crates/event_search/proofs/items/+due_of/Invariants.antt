use Rattle.std.proofs.Common.{length}
use Rattle.event_search.proofs.items.+due_of.Given as goal

abbrev pub decreases-due_of : goal.decreases-due_of
decreases-due_of l = length l.marks.now
