use Rattle.std.proofs.Common.{◌≡◌, ℕ, zero, suc, ◌-◌, ◌/◌, ◌^◌, ◌<◌, arith}
use Rattle.std.proofs.Math.Nat.{pow-suc}
use Rattle.tree_key.proofs.key.Key.parent.Goals as goal

-- half of a place fits the level above
half_fits : (level at : ℕ) → 0 < level → at < 2 ^ level → at / 2 < 2 ^ (level - 1)
half_fits zero at above fits = absurd (omega arith)
half_fits (suc n) at above fits =
    let below_double = rw (pow-suc 2 n) at fits in
    let e : suc n - 1 ≡ n = omega arith in
    rw e (omega arith)

pub invariant_of-result : goal.invariant_of-result
invariant_of-result c =
    let inner = c.self.invariant in
    let half = half_fits c.self.inside.level c.self.inside.at (omega arith) inner.1 in
    (omega arith, omega arith)
