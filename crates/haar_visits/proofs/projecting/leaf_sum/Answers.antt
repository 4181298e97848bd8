use Rattle.std.proofs.Common.{◌≡◌, ◌≤◌, ◌*◌, ◌^◌, ◌-◌, w64, pos, ◌*ℤ◌, arith, ap, ◌∙◌, sym, FitsSigned}
use Rattle.std.specs.Int.RustNames.{unsigned_abs}
use Rattle.std.proofs.lemmas.Int.{ints, fits_signed_mul, to_z-of_z}
use Rattle.std.proofs.lemmas.Nat.{one_shl}
use Rattle.std.proofs.Math.Pow.{pow_mono}
use Rattle.tree_key.specs.Keys.{width}
use Rattle.tree_model.proofs.IntegerLemmas.{product_within}
use Rattle.haar_node.proofs.StoredNumberLemmas.{stored_product}
use Rattle.haar_visits.proofs.projecting.leaf_sum.Goals as goal

pub new-requires : goal.new-requires
new-requires c =
    let far = c.args.depth - c.level.result in
    let short = one_shl far 32 (omega (arith, c.requires.deep)) in
    let small : 2 ^ far ≤ 2 ^ 16 = pow_mono {i = far} {j = 16} (omega (arith, c.requires.deep)) in
    let shifted : c.from-width.result ≡ pos (2 ^ far) = (c.from-width.ensures ∙ ap pos short) in
    let bound : unsigned_abs c.from-width.result ≤ 2 ^ 16 = rw shifted small in
    let v = c.value_at-value.result in
    let fw : FitsSigned w64 c.from-width.result = omega (arith, ints, bound) in
    let fv : FitsSigned w64 v = omega (arith, ints, c.value_at-value.ensures.bound) in
    let within = product_within c.from-width.result v (2 ^ 16) (2 ^ 24) bound c.value_at-value.ensures.bound in
    let fp : FitsSigned w64 (c.from-width.result *ℤ v) = omega (arith, ints, within) in
    rw (stored_product w64 c.from-width.result v fw fv fp) (omega (arith, within))

pub returns : goal.returns
returns c =
    let far = c.args.depth - c.level.result in
    let short = one_shl far 32 (omega (arith, c.requires.deep)) in
    let small : 2 ^ far ≤ 2 ^ 16 = pow_mono {i = far} {j = 16} (omega (arith, c.requires.deep)) in
    let shifted : c.from-width.result ≡ pos (2 ^ far) = (c.from-width.ensures ∙ ap pos short) in
    let width_is : c.from-width.result ≡ pos (width c.args.depth c.args.key) = (shifted ∙ ap (λ n. pos (2 ^ (c.args.depth - n))) c.level.ensures.value) in
    let bound : unsigned_abs c.from-width.result ≤ 2 ^ 16 = rw shifted small in
    let v = c.value_at-value.result in
    let fw : FitsSigned w64 c.from-width.result = omega (arith, ints, bound) in
    let fv : FitsSigned w64 v = omega (arith, ints, c.value_at-value.ensures.bound) in
    let within = product_within c.from-width.result v (2 ^ 16) (2 ^ 24) bound c.value_at-value.ensures.bound in
    let fp : FitsSigned w64 (c.from-width.result *ℤ v) = omega (arith, ints, within) in
    c.new.ensures ∙ stored_product w64 c.from-width.result v fw fv fp ∙ (λ i. width_is i *ℤ c.value_at-value.ensures.value i)
