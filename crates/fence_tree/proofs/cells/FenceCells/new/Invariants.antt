use Rattle.std.proofs.Common.{◌≡◌, suc, ◌≤◌, vec_len, vec_capacity}
use Rattle.fence_tree.proofs.cells.FenceCells.new.Given as goal

abbrev pub invariant-loop-rank : goal.invariant-loop-rank
invariant-loop-rank g l = (suc (vec_len l.cells) ≡ l._rank) × (l.ranks ≤ vec_capacity l.cells)
