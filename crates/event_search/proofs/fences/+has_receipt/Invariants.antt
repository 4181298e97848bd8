use Rattle.std.proofs.Common.{length}
use Rattle.event_search.proofs.fences.+has_receipt.Given as goal

abbrev pub decreases-has_receipt : goal.decreases-has_receipt
decreases-has_receipt l = length l.marks.now
