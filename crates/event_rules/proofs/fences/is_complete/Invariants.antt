use Rattle.std.proofs.Common.{◌≡◌, ℕ, ◌<◌, Some}
use Rattle.event_lists.specs.declared.receipt.Row.{Row}
use Rattle.event_lists.specs.Events.{main_of, part}
use Rattle.event_lists.specs.Fences.{row_of}
use Rattle.event_rules.proofs.fences.is_complete.Given as goal

abbrev pub invariant-loop-rank : goal.invariant-loop-rank
invariant-loop-rank g l = (q : ℕ) → q < l.rank → (row : Row) × (row_of l.fence l.pass (part (main_of q) (g.P.Past.log_of l.past)) ≡ Some row)
