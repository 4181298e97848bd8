-- What a shape has at a key without children there, and below it.
use Rattle.std.proofs.Common.{◌≡◌, ℕ, zero, suc, ◌+◌, ◌-◌, ◌/◌, ◌^◌, ◌<◌, Bool, true, false, Some, refl, sym, ◌∙◌, ap, subst, arith, inl, inr, ne_eqb, eqb}
use Rattle.std.proofs.lemmas.Bool.{cases_Bool, cases_eq, false_from_ne_true, false≢true, and_left, and_right, and_from, eq-eqb}
use Rattle.tree_key.specs.Keys.{Key, child, parent}
use Rattle.tree_key.proofs.BoxLemmas.{same_key as key_from_parts}
use Rattle.tree_key.proofs.FamilyLemmas.{child_of_parent}
use Rattle.tree_key.proofs.PowerLemmas.{quotient_in_steps}
use Rattle.tree_model.specs.Shapes.{IsShape, is_leaf, is_interior}
use Rattle.tree_operations.specs.Numbers.{same_key}
use Rattle.tree_operations.specs.Filling.{under}
use Rattle.tree_operations.proofs.SubtreeLemmas.{IsUnder, under_parts, same_key_holds}

-- a key's parent lies under each key that the key lies properly below
parent_under : (top k : Key) → IsUnder top k → top.level < k.level → IsUnder top (record { level = k.level - 1; at = k.at / 2 })
parent_under top k is below =
    let far = k.level - top.level in
    let steps = quotient_in_steps k.at 1 far (omega arith) in
    let same : k.level - 1 - top.level ≡ far - 1 = omega arith in
    record {
      level = omega arith;
      at = ap (λ n. k.at / 2 / 2 ^ n) same ∙ sym steps ∙ is.at;
    }

abbrev above : Key → Key
above k = record { level = k.level - 1; at = k.at / 2 }

as_child : (k : Key) → 0 < k.level → (side : Bool) × (child (above k) side ≡ k)
as_child k below =
    let deep : eqb k.level 0 ≡ false = ne_eqb k.level 0 (λ e. omega arith) in
    let up : parent k ≡ Some (above k) = rw deep refl in
    child_of_parent k (above k) up

childless : (depth : ℕ) (shape : Key → Bool) (top : Key) (side : Bool) → IsShape depth shape → shape (child top false) ≡ false → shape (child top side) ≡ false
childless depth shape top true is none = is.children top ∙ none
childless depth shape top false is none = none

-- the children of keys so many levels below a key without children in a shape aren't there
child_gone : (n depth : ℕ) (shape : Key → Bool) (top k : Key) (side : Bool) → IsShape depth shape → shape (child top false) ≡ false → IsUnder top k → k.level ≡ top.level + n → shape (child k side) ≡ false
child_gone zero depth shape top k side is none under far =
    let flat : k.level - top.level ≡ 0 = omega arith in
    let unshifted : k.at / 2 ^ (k.level - top.level) ≡ k.at = rw flat (omega arith) in
    let same : top ≡ k = key_from_parts top k (omega arith) (sym under.at ∙ unshifted) in
    subst (λ (other : Key). shape (child other side) ≡ false) same (childless depth shape top side is none)
child_gone (suc n) depth shape top k side is none under far =
    let family = as_child k (omega arith) in
    let absent = subst (λ (c : Key). shape c ≡ false) family.1 (child_gone n depth shape top (above k) family.0 is none (parent_under top k under (omega arith)) (omega arith)) in
    false_from_ne_true (shape (child k side)) (λ there. false≢true (sym absent ∙ is.parents k side there))

-- below a key without children in a shape, the shape has no key
pub none_below : (depth : ℕ) (shape : Key → Bool) (top k : Key) → IsShape depth shape → shape (child top false) ≡ false → under top k ≡ true → same_key top k ≡ false → shape k ≡ false
none_below depth shape top k is none inside apart =
    let parts = under_parts top k inside in
    elim (cases_eq top.level k.level) [
      | inl level ↦
          let flat : k.level - top.level ≡ 0 = omega arith in
          let unshifted : k.at / 2 ^ (k.level - top.level) ≡ k.at = rw flat (omega arith) in
          absurd (false≢true (sym apart ∙ and_from (eqb top.level k.level) (eqb top.at k.at) (eq-eqb _ _ level) (eq-eqb _ _ (sym parts.at ∙ unshifted))))
      | inr differ ↦
          let family = as_child k (omega (arith, parts.level)) in
          let n = k.level - top.level - 1 in
          subst (λ (c : Key). shape c ≡ false) family.1 (child_gone n depth shape top (above k) family.0 is none (parent_under top k parts (omega (arith, parts.level))) (omega (arith, parts.level)))
    ]

-- so no key there has children, or is a leaf
pub no_interior_under : (depth : ℕ) (shape : Key → Bool) (top k : Key) → IsShape depth shape → shape (child top false) ≡ false → under top k ≡ true → is_interior shape k ≡ false
no_interior_under depth shape top k is none inside = elim (cases_Bool (same_key top k)) [
  | inl same ↦ and_right (shape k) (shape (child k false)) (subst (λ (other : Key). shape (child other false) ≡ false) (same_key_holds top k same) none)
  | inr apart ↦ and_left (shape k) (shape (child k false)) (none_below depth shape top k is none inside apart)
]

pub no_leaf_below : (depth : ℕ) (shape : Key → Bool) (top k : Key) → IsShape depth shape → shape (child top false) ≡ false → under top k ≡ true → same_key top k ≡ false → is_leaf shape k ≡ false
no_leaf_below depth shape top k is none inside apart = rw (none_below depth shape top k is none inside apart) refl
