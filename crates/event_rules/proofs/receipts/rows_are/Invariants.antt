use Rattle.std.proofs.Common.{◌≡◌, ℕ, ◌<◌}
use Rattle.std.specs.Prelude.{slice_get}
use Rattle.event_lists.specs.Events.{main_of, part}
use Rattle.event_lists.specs.Fences.{row_of}
use Rattle.event_rules.proofs.receipts.rows_are.Given as goal

abbrev pub invariant-loop-rank : goal.invariant-loop-rank
invariant-loop-rank g l = (q : ℕ) → q < l.rank → row_of l.receipt.fence l.receipt.pass (part (main_of q) (g.P.Past.log_of l.past)) ≡ slice_get l.receipt.rows q
