-- What contracts see of a future's cell, and what notes of it know.
use Rattle.std.specs.Prelude.{◌≡◌, ℕ, Option, Some, IfSome}
use Rattle.future_cell.specs.declared.callback.FutureId.{FutureId}

-- whose cell it is, and the name that the cell and its notes share
pub record CellState : Type 0 where
  pub id : FutureId
  pub cell : ℕ

-- a note that knew a value knows it now
abbrev pub StillKnows : {T : Type 0} → Option T → Option T → Type 0
StillKnows before now = IfSome before (λ value. now ≡ Some value)

-- where both know a value, it is the same
abbrev pub KnowTheSame : {T : Type 0} → Option T → Option T → Type 0
KnowTheSame one other = IfSome one (λ value. IfSome other (λ others. others ≡ value))
