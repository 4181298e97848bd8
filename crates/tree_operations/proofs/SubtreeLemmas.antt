-- The keys at a top key and below it are the key itself and those under its two children.
use Rattle.std.proofs.Common.{◌≡◌, ◌+◌, ◌-◌, ◌*◌, ◌/◌, ◌^◌, ◌<◌, ◌≤◌, Bool, true, false, ◌||◌, leb, eqb, refl, sym, ◌∙◌, ap, subst, arith, inl, inr}
use Rattle.std.proofs.lemmas.Bool.{and_parts, and_from, or_cases, or_left, or_right, cases_eq, eqb-true, eq-eqb, leb-true, le-leb}
use Rattle.tree_key.specs.Keys.{Key, child}
use Rattle.tree_key.proofs.BoxLemmas.{same_key as key_from_parts}
use Rattle.tree_key.proofs.PowerLemmas.{quotient_in_steps}
use Rattle.tree_model.proofs.ConstantBoxLemmas.{same_tests}
use Rattle.tree_operations.specs.Numbers.{same_key}
use Rattle.tree_operations.specs.Filling.{under}

-- what a test of keys says
pub same_key_holds : (a b : Key) → same_key a b ≡ true → a ≡ b
same_key_holds a b is =
    let parts = and_parts (eqb a.level b.level) (eqb a.at b.at) is in
    key_from_parts a b (eqb-true _ _ parts.0) (eqb-true _ _ parts.1)

-- the key is the top one, or lies below it
pub record IsUnder (top k : Key) : Type 0 where
  pub level : top.level ≤ k.level
  pub at : k.at / 2 ^ (k.level - top.level) ≡ top.at

pub under_parts : (top k : Key) → under top k ≡ true → IsUnder top k
under_parts top k is =
    let parts = and_parts (leb top.level k.level) (eqb (k.at / 2 ^ (k.level - top.level)) top.at) is in
    record { level = leb-true _ _ parts.0; at = eqb-true _ _ parts.1 }

pub under_from : (top k : Key) → IsUnder top k → under top k ≡ true
under_from top k is = and_from (leb top.level k.level) (eqb (k.at / 2 ^ (k.level - top.level)) top.at) (le-leb _ _ is.level) (eq-eqb _ _ is.at)

pub under_self : (k : Key) → under k k ≡ true
under_self k =
    let none : k.level - k.level ≡ 0 = omega arith in
    under_from k k (record { level = omega arith; at = rw none (omega arith) })

-- a half's half
one_level_up : (top k : Key) → top.level < k.level → k.at / 2 ^ (k.level - top.level) ≡ k.at / 2 ^ (k.level - (top.level + 1)) / 2
one_level_up top k below =
    let one : k.level - top.level - (k.level - (top.level + 1)) ≡ 1 = omega arith in
    quotient_in_steps k.at (k.level - (top.level + 1)) (k.level - top.level) (omega arith) ∙ ap (λ n. k.at / 2 ^ (k.level - (top.level + 1)) / 2 ^ n) one

under_child_top : (top k : Key) (right : Bool) → under (child top right) k ≡ true → under top k ≡ true
under_child_top top k true is =
    let parts = under_parts (child top true) k is in
    let up = one_level_up top k (omega (arith, parts.level)) in
    under_from top k (record { level = omega (arith, parts.level); at = up ∙ ap (λ n. n / 2) parts.at ∙ omega arith })
under_child_top top k false is =
    let parts = under_parts (child top false) k is in
    let up = one_level_up top k (omega (arith, parts.level)) in
    under_from top k (record { level = omega (arith, parts.level); at = up ∙ ap (λ n. n / 2) parts.at ∙ omega arith })

-- a key under the top one and not under its left child or right child is the top one
under_below : (top k : Key) → under top k ≡ true → (same_key top k || (under (child top false) k || under (child top true) k)) ≡ true
under_below top k is =
    let parts = under_parts top k is in
    elim (cases_eq top.level k.level) [
      | inl same ↦
          let none : k.level - top.level ≡ 0 = omega arith in
          let unshifted : k.at / 2 ^ (k.level - top.level) ≡ k.at = rw none (omega arith) in
          let at : k.at ≡ top.at = (sym unshifted ∙ parts.at) in
          or_left (same_key top k) _ (and_from (eqb top.level k.level) (eqb top.at k.at) (eq-eqb _ _ same) (eq-eqb _ _ (sym at)))
      | inr differ ↦
          let above : top.level < k.level = omega (arith, parts.level) in
          let q = k.at / 2 ^ (k.level - (top.level + 1)) in
          let half : q / 2 ≡ top.at = (sym (one_level_up top k above) ∙ parts.at) in
          let below : (under (child top false) k || under (child top true) k) ≡ true = elim (cases_eq q (2 * top.at)) [
            | inl even ↦ or_left (under (child top false) k) _ (under_from (child top false) k (record { level = omega arith; at = even ∙ omega arith }))
            | inr odd ↦ or_right (under (child top false) k) _ (under_from (child top true) k (record { level = omega arith; at = omega arith }))
          ] in
          or_right (same_key top k) _ below
    ]

pub under_split : (top k : Key) → under top k ≡ (same_key top k || (under (child top false) k || under (child top true) k))
under_split top k =
    same_tests (under top k) (same_key top k || (under (child top false) k || under (child top true) k)) (under_below top k)
    (λ is. elim (or_cases (same_key top k) (under (child top false) k || under (child top true) k) is) [
      | inl same ↦ subst (λ (other : Key). under top other ≡ true) (same_key_holds top k same) (under_self top)
      | inr below ↦ elim (or_cases (under (child top false) k) (under (child top true) k) below) [
        | inl left ↦ under_child_top top k false left
        | inr right ↦ under_child_top top k true right
      ]
    ])
