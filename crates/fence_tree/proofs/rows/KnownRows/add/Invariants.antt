use Rattle.std.proofs.Common.{◌≡◌, ℕ, ◌<◌, ◌≤◌}
use Rattle.fence_tree.specs.Rows.{row_at, row_or}
use Rattle.fence_tree.proofs.rows.KnownRows.add.Given as goal

abbrev pub invariant-loop-rank : goal.invariant-loop-rank
invariant-loop-rank l = ((q : ℕ) → q < l.rank → row_at l.self q ≡ row_or (row_at l.others q) (row_at l.initial.self q))
    × ((q : ℕ) → l.rank ≤ q → row_at l.self q ≡ row_at l.initial.self q)
