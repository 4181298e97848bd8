use Rattle.std.proofs.Common.{◌≡◌, ℕ, ◌*◌, ◌^◌, ◌%◌, ◌<◌, ◌≤◌, inl, inr, arith, lit<}
use Rattle.std.proofs.lemmas.Bool.{cases_lt}
use Rattle.std.proofs.lemmas.Nat.{one_shl}
use Rattle.std.proofs.Math.Nat.{pow-le-pow_right}
use Rattle.tree_key.proofs.key.Key.of_place.Goals as goal

-- a power of two up to a number below the 17th has its exponent below 17
exponent_below : (level place : ℕ) → 2 ^ level ≤ place → place < 2 ^ 17 → level < 17
exponent_below level place power below =
    elim (cases_lt level 17) [
      | inl below17 ↦ below17
      | inr deep ↦ let more = pow-le-pow_right {n = 2} (lit< tt) {i = 17} {j = level} deep in absurd (omega arith)
    ]

-- `1 << level` at 64 bits
bit : (level : ℕ) → level < 64 → 1 * 2 ^ level % 2 ^ 64 ≡ 2 ^ level
bit level below = one_shl level 64 below

pub invariant_of-result : goal.invariant_of-result
invariant_of-result c =
    let level : c.ilog2-level.result < 17 =
    exponent_below _ _ c.ilog2-level.ensures.power_le (omega arith) in
    let shift = bit c.ilog2-level.result c.ilog2-level.ensures.bound in
    rw shift (omega arith, omega arith)

pub returns-clause-some : goal.returns-clause-some
returns-clause-some c =
    let level : c.ilog2-level.result < 17 =
    exponent_below _ _ c.ilog2-level.ensures.power_le (omega arith) in
    let shift = bit c.ilog2-level.result c.ilog2-level.ensures.bound in
    rw shift (record { level = omega arith; at = omega arith }, omega arith)
