-- The rows of a receipt: a short list, kept in an array of sixteen.
use Rattle.std.specs.Prelude.{◌≡◌, ℕ, ◌-◌, ◌≤◌, List, length, drop, replicate}
use Rattle.event_lists.specs.declared.receipt.Row.{Row}

-- how many ranks there are at most
abbrev pub max_ranks : ℕ
max_ranks = 16

-- what fills the positions after the rows
abbrev pub no_row : Row
no_row = record { sent = 0; handled = 0; tasks = 0 }

-- what an array and a count of rows keep
pub record AreRows (rows : List Row) (count : ℕ) : Type 0 where
  pub size : length rows ≡ 16
  pub within : count ≤ 16
  pub filled : drop count rows ≡ replicate (16 - count) no_row
