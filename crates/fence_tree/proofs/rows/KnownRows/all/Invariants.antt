use Rattle.std.proofs.Common.{◌≡◌, ℕ, ◌<◌, length, slice_get}
use Rattle.fence_tree.specs.Rows.{row_at}
use Rattle.fence_tree.proofs.rows.KnownRows.all.Given as goal

abbrev pub invariant-loop-rank : goal.invariant-loop-rank
invariant-loop-rank l = (length l.rows ≡ 16) × ((q : ℕ) → q < l.rank → slice_get l.rows q ≡ row_at l.self q)
