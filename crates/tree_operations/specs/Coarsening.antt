-- Sums over boxes on which all values are the same, as they are joined from the leaves up.
use Rattle.std.specs.Prelude.{Option, Some, None, ℤ, ◌+ℤ◌, if◌then◌else◌}
use Rattle.std.specs.Ordering.{int_eq}

-- the sum over a box from those over its halves, where both are there and are the same
abbrev pub joined_sum : Option ℤ → Option ℤ → Option ℤ
joined_sum None right = None
joined_sum (Some left) None = None
joined_sum (Some left) (Some right) = if int_eq left right then Some (left +ℤ right) else None
