use Rattle.std.proofs.Common.{◌≡◌, ◌≤◌, ◌*◌, ◌^◌}
use Rattle.event_lists.specs.Fences.{sum_ranks, sent_in, handled_in}
use Rattle.fence_tree.specs.Rows.{row_at}
use Rattle.fence_tree.proofs.rows.KnownRows.sums.Given as goal

abbrev pub invariant-loop-rank : goal.invariant-loop-rank
invariant-loop-rank l = (l.sent ≡ sum_ranks (λ q. sent_in (row_at l.self q)) l.rank) × (l.handled ≡ sum_ranks (λ q. handled_in (row_at l.self q)) l.rank)
    × (l.sent ≤ l.rank * 2 ^ 64) × (l.handled ≤ l.rank * 2 ^ 64)
