-- Numbers of nodes, where they stay within the bound.
use Rattle.std.specs.Prelude.{ℕ, ◌^◌, Bool, ◌&&◌, ◌==◌, nat_le, Option, Some, None, if◌then◌else◌, ℤ, pos, ◌+ℤ◌, ◌-ℤ◌}
use Rattle.std.specs.Int.RustNames.{unsigned_abs, int_div, int_rem}
use Rattle.tree_model.specs.Nodes.{max_number}

-- the number as one of a node, where it is within the bound
abbrev pub coefficient : ℤ → Option ℤ
coefficient z = if nat_le (unsigned_abs z) max_number then Some z else None

-- whether a number divides another
abbrev pub divides : ℕ → ℤ → Bool
divides n z = unsigned_abs (int_rem z (pos n)) == 0

-- the sums over the halves of a box, from the sum over it and their difference, where both are even or both odd
abbrev pub halves : ℤ → ℤ → Option (ℤ × ℤ)
halves sum difference = if divides 2 (sum +ℤ difference) then Some (int_div (sum +ℤ difference) (pos 2), int_div (sum -ℤ difference) (pos 2)) else None
