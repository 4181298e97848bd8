-- The functions that a job can name, on the cells from 0 to 2 ^ depth - 1.
use Rattle.std.specs.Prelude.{ℕ, ◌-◌, ◌%◌, ◌^◌, Bool, ◌&&◌, nat_le, nat_lt, if◌then◌else◌, ℤ, pos, ◌+ℤ◌, ◌*ℤ◌}
use Rattle.std.specs.Int.RustNames.{unsigned_abs}
use Rattle.tree_model.specs.Mix.{mix}

-- `Const c` is c everywhere; `Ramp a b` begins with a and rises by b from each cell to the next; `Step x l h` is l before
-- cell x and h from it on; `Box x y v` is v from cell x to before cell y, and 0 elsewhere; `Hash s m` is below m, and looks
-- random
pub data Function : Type 0 where
  Const : (constant : ℤ) → Function
  Ramp : (start slope : ℤ) → Function
  Step : (edge : ℕ) (before after : ℤ) → Function
  Box : (start end : ℕ) (value : ℤ) → Function
  Hash : (seed modulus : ℕ) → Function

-- the value at a cell
abbrev pub value_at : Function → ℕ → ℤ
value_at (Const constant) cell = constant
value_at (Ramp start slope) cell = start +ℤ slope *ℤ pos cell
value_at (Step edge before after) cell = if nat_lt cell edge then before else after
value_at (Box start end value) cell = if nat_le start cell && nat_lt cell end then value else pos 0
value_at (Hash seed modulus) cell = pos (mix seed cell % modulus)

-- the largest depth: 65,536 cells
abbrev pub max_depth : ℕ
max_depth = 16

-- the largest value of a cell, and the largest slope and tolerance, in absolute value
abbrev pub max_value : ℕ
max_value = 2 ^ 24

abbrev pub max_difference : ℕ
max_difference = 2 ^ 25

abbrev pub is_value : ℤ → Bool
is_value z = nat_le (unsigned_abs z) max_value

-- whether a function may be named at a depth: a ramp's first and last value and its slope are within their limits, the
-- edges lie among the cells or right after them, a seed has 32 bits, and the numbers below a modulus are values
abbrev pub fits : ℕ → Function → Bool
fits depth (Const constant) = nat_le depth max_depth && is_value constant
fits depth (Ramp start slope) =
    nat_le depth max_depth && (nat_le (unsigned_abs slope) max_difference && (is_value start && is_value (value_at (Ramp start slope) (2 ^ depth - 1))))
fits depth (Step edge before after) = nat_le depth max_depth && (nat_le edge (2 ^ depth) && (is_value before && is_value after))
fits depth (Box start end value) = nat_le depth max_depth && (nat_le start end && (nat_le end (2 ^ depth) && is_value value))
fits depth (Hash seed modulus) = nat_le depth max_depth && (nat_lt seed (2 ^ 32) && (nat_le 1 modulus && nat_le modulus max_value))
