-- Lemmas that crates above use: quotients by powers of two.
use Rattle.std.proofs.Common.{◌≡◌, ℕ, ◌+◌, ◌-◌, ◌*◌, ◌/◌, ◌^◌, ◌<◌, ◌≤◌, ap, sym, ◌∙◌, arith}
use Rattle.std.proofs.lemmas.Nat.{pow-add, shr-shr}
use Rattle.std.proofs.Math.Nat.{div-eq_of_lt-le, div-mul-le_self, lt-div-mul-add}

-- a number from q times n, and below the next multiple, has the quotient q
pub quotient_from_bounds : (n q m : ℕ) → q * n ≤ m → m < q * n + n → m / n ≡ q
quotient_from_bounds n q m from below = div-eq_of_lt-le n from (omega arith)

-- a number with the quotient q is from q times n
pub from_quotient : (n q m : ℕ) → m / n ≡ q → q * n ≤ m
from_quotient n q m e = rw e at (div-mul-le_self m n)

-- and below the next multiple
pub below_quotient : (n q m : ℕ) → 0 < n → m / n ≡ q → m < q * n + n
below_quotient n q m above e = rw e at (lt-div-mul-add {a = m} {b = n} above)

-- a higher power divides in two steps
pub quotient_in_steps : (m low high : ℕ) → low ≤ high → m / 2 ^ high ≡ m / 2 ^ low / 2 ^ (high - low)
quotient_in_steps m low high order =
    let parts : high ≡ low + (high - low) = omega arith in
    ap (λ n. m / 2 ^ n) parts ∙ sym (shr-shr m low (high - low))

-- one power more is twice as much
pub twice : (n : ℕ) → 2 ^ (n + 1) ≡ 2 * 2 ^ n
twice n = rw (pow-add 2 n 1) (omega arith)
