-- What a count of faults says of an answer.
use Rattle.std.specs.Prelude.{ℕ, ◌+◌, ◌-◌, ◌^◌, ◌≤◌, min, Result, OnErr}

-- one more, up to the last value of a 64-bit counter
abbrev pub next_count : ℕ → ℕ
next_count count = min (count + 1) (2 ^ 64 - 1)

-- the count rose, or was at the last value of a counter
abbrev pub Rose : ℕ → ℕ → Type 0
Rose before now = next_count before ≤ now

-- the count has not fallen, and a failure is answered only where it rose
pub record HasCause {T E : Type 0} (before now : ℕ) (result : Result T E) : Type 0 where
  pub later : before ≤ now
  pub failed : OnErr result (Rose before now)
