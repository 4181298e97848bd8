use Rattle.std.proofs.Common.{ℕ, ◌<◌, ◌≤◌, ◌^◌, arith, lit<}
use Rattle.std.proofs.Math.Nat.{pow-le-pow_right}
use Rattle.job_words.proofs.numbers.size_of_digits.Goals as goal

-- i digits write less than 10 ^ j, where i is at most j
below : (i j v : ℕ) → i ≤ j → v < 10 ^ i → v < 10 ^ j
below i j v few small = omega (arith, pow-le-pow_right {n = 10} (lit< tt) {i = i} {j = j} few)

pub overflow_mul-value : goal.overflow_mul-value
overflow_mul-value c =
    let small = below c.loop-byte.byte-index 17 c.loop-byte.value (omega arith) c.loop-byte.invariant.small in
    omega arith

pub overflow_add-value : goal.overflow_add-value
overflow_add-value c =
    let small = below c.loop-byte.byte-index 17 c.loop-byte.value (omega arith) c.loop-byte.invariant.small in
    omega arith

pub returns-clause-small : goal.returns-clause-small
returns-clause-small c = below c.loop-byte.byte-index 18 c.loop-byte.value (omega arith) c.loop-byte.invariant.small
