use Rattle.std.proofs.Common.{◌≡◌, ◌≤◌, length, vec_len}
use Rattle.std.specs.Prelude.{All}
use Rattle.crew.specs.Shares.{AreShares}
use Rattle.crew.proofs.ranks.ranks_of.Given as goal

abbrev pub invariant-loop-rank : goal.invariant-loop-rank
invariant-loop-rank g l = record {
  many : vec_len l.shares ≡ l.rank;
  each : vec_len l.seats ≡ l.rank;
  shares : AreShares (length l.inboxes) l.shares.items;
  staff : All (λ share. share.workers ≡ l.workers) l.shares.items;
  seats : All (λ at_pool. All (λ seat. seat ≤ l.workers) at_pool.items) l.seats.items;
}
