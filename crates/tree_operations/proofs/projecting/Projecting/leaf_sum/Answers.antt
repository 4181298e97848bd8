use Rattle.std.proofs.Common.{◌≡◌, ◌≤◌, ◌^◌, ◌-◌, w64, pos, arith, ap, ◌∙◌}
use Rattle.std.specs.Int.RustNames.{unsigned_abs}
use Rattle.std.proofs.lemmas.Int.{fits_signed_mul, to_z-of_z}
use Rattle.std.proofs.lemmas.Nat.{one_shl}
use Rattle.std.proofs.Math.Pow.{pow_mono}
use Rattle.tree_key.specs.Keys.{width}
use Rattle.tree_operations.proofs.projecting.Projecting.leaf_sum.Goals as goal

pub returns : goal.returns
returns c =
    let far = c.args.self.depth - c.level.result in
    let short = one_shl far 32 (omega (arith, c.args.self.is_deep)) in
    let small : 2 ^ far ≤ 2 ^ 16 = pow_mono {i = far} {j = 16} (omega (arith, c.args.self.is_deep)) in
    let shifted : c.from-width.result ≡ pos (2 ^ far) = (c.from-width.ensures ∙ ap pos short) in
    let width_is : c.from-width.result ≡ pos (width c.args.self.depth c.args.key) = (shifted ∙ ap (λ n. pos (2 ^ (c.args.self.depth - n))) c.level.ensures.value) in
    let bound : unsigned_abs c.from-width.result ≤ 2 ^ 16 = rw shifted small in
    let fit = fits_signed_mul w64 c.from-width.result c.value_at-value.result (2 ^ 16) (2 ^ 24) bound c.value_at-value.ensures.bound (omega arith) in
    rw (← width_is, ← c.value_at-value.ensures.value) (grind (arith, to_z-of_z, fit))
