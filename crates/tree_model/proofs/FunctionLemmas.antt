-- Lemmas that crates above use: what a function's limits say of its values.
use Rattle.std.proofs.Common.{◌≡◌, ℕ, suc, ◌-◌, ◌*◌, ◌^◌, ◌<◌, ◌≤◌, true, ℤ, pos, negsuc, ◌+ℤ◌, ◌*ℤ◌, arith}
use Rattle.std.specs.Int.RustNames.{unsigned_abs}
use Rattle.std.proofs.Math.Nat.{mul-le-mul_left}
use Rattle.std.proofs.lemmas.Int.{ints}
use Rattle.std.proofs.lemmas.Bool.Decides.{nat_tests}
use Rattle.tree_model.specs.Functions.{Function, value_at, fits, max_value}
use Rattle.tree_model.specs.Functions.Function.{Const, Ramp, Step, Box, Hash}

-- between its first and its last value a ramp stays within what both are within
ramp_within : (start slope : ℤ) (cell last limit : ℕ) → cell ≤ last → unsigned_abs start ≤ limit → unsigned_abs (start +ℤ slope *ℤ pos last) ≤ limit → unsigned_abs (start +ℤ slope *ℤ pos cell) ≤ limit
ramp_within start (pos n) cell last limit le first final =
    let more : n * cell ≤ n * last = mul-le-mul_left n le in
    omega (arith, ints)
ramp_within start (negsuc n) cell last limit le first final =
    let more : suc n * cell ≤ suc n * last = mul-le-mul_left (suc n) le in
    omega (arith, ints)

pub value_within : (depth : ℕ) (f : Function) (cell : ℕ) → fits depth f ≡ true → cell < 2 ^ depth → unsigned_abs (value_at f cell) ≤ max_value
value_within depth (Const constant) cell fit in_range = grind (arith, nat_tests)
value_within depth (Ramp start slope) cell fit in_range =
    ramp_within start slope cell (2 ^ depth - 1) max_value (omega arith) (grind (arith, nat_tests)) (grind (arith, nat_tests))
value_within depth (Step edge before behind) cell fit in_range = grind (arith, nat_tests)
value_within depth (Box start end value) cell fit in_range = grind (arith, nat_tests)
value_within depth (Hash seed modulus) cell fit in_range = grind (arith, nat_tests)
