-- Lemmas that crates above use: sums of two products, as the code has them.
use Rattle.std.proofs.Common.{◌≡◌, ◌^◌, ◌≤◌, w64, ℤ, ◌+ℤ◌, ◌*ℤ◌, arith}
use Rattle.std.specs.Int.RustNames.{FitsSigned, unsigned_abs}
use Rattle.std.proofs.lemmas.Int.{ints, to_z-of_z}
use Rattle.tree_model.specs.Nodes.{max_number}
use Rattle.tree_model.proofs.IntegerLemmas.{product_within}
use Rattle.haar_node.proofs.StoredNumberLemmas.{stored, stored_product}

-- the sum of two products as the code has it
abbrev pub sum_stored : ℤ → ℤ → ℤ → ℤ → ℤ
sum_stored a s b t = stored w64 (stored w64 a *ℤ stored w64 s) +ℤ stored w64 (stored w64 b *ℤ stored w64 t)

-- what holds of it where the factors and the numbers are within their limits
pub record IsExact (a s b t : ℤ) : Type 0 where
  pub fits : FitsSigned w64 (sum_stored a s b t)
  pub sum : stored w64 (sum_stored a s b t) ≡ a *ℤ s +ℤ b *ℤ t

pub exact : (a s b t : ℤ) → unsigned_abs a ≤ 2 ^ 20 → unsigned_abs s ≤ max_number → unsigned_abs b ≤ 2 ^ 20 → unsigned_abs t ≤ max_number → IsExact a s b t
exact a s b t few_a small_s few_b small_t =
    let left_within = product_within a s (2 ^ 20) (2 ^ 41) few_a small_s in
    let right_within = product_within b t (2 ^ 20) (2 ^ 41) few_b small_t in
    let left = stored_product w64 a s (omega (arith, ints)) (omega (arith, ints)) (omega (arith, ints)) in
    let right = stored_product w64 b t (omega (arith, ints)) (omega (arith, ints)) (omega (arith, ints)) in
    let fits : FitsSigned w64 (a *ℤ s +ℤ b *ℤ t) = omega (arith, ints) in
    record { fits = rw (left, right) fits; sum = rw (left, right) (to_z-of_z w64 (a *ℤ s +ℤ b *ℤ t) fits) }
