-- What contracts see of a rank, and of a hand.
use Rattle.std.specs.Prelude.{ℕ, Bool}

-- its number, of how many ranks, and how many workers it has
pub record ShareData : Type 0 where
  pub rank : ℕ
  pub ranks : ℕ
  pub workers : ℕ

-- its number at its rank, how many commands it has gone through, and whether it has read that the run is finished or that
-- it was stopped
pub record HandData : Type 0 where
  pub number : ℕ
  pub commands : ℕ
  pub finished : Bool
  pub stopped : Bool
