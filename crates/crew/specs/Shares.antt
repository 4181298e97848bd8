-- The ranks of a run.
use Rattle.std.specs.Prelude.{◌≡◌, ◌<◌, ℕ, List, length, slice_index_or}
use Rattle.rank.specs.Shares.{ShareData}

-- it is the rank of a number, of so many ranks
pub record IsShareOf (many number : ℕ) (share : ShareData) : Type 0 where
  pub rank : share.rank ≡ number
  pub ranks : share.ranks ≡ many

-- the first ranks of so many, by number
abbrev pub AreShares : ℕ → List ShareData → Type 0
AreShares ranks shares = (rank : ℕ) (d : ShareData) → rank < length shares → IsShareOf ranks rank (slice_index_or shares rank d)
