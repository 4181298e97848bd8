-- The rank at which a unit runs, or that keeps a future.
use Rattle.std.specs.Prelude.{ℕ, nat_lt, if◌then◌else◌, Option, Some, None}

-- the rank that a rule names, if it names one below the number of ranks; else the first rank
abbrev pub rank_within : ℕ → Option ℕ → ℕ
rank_within ranks None = 0
rank_within ranks (Some rank) = if nat_lt rank ranks then rank else 0
