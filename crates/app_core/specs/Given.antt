-- What is given to a step.
use Rattle.std.specs.Prelude.{ℕ, List}

-- a value for each need, a cell for each entry that is read, and a size
pub record Given (V C : Type 0) : Type 0 where
  pub values : List V
  pub cells : List C
  pub size : ℕ
