-- Lemmas that crates above use: parents, children and ancestors.
use Rattle.std.proofs.Common.{◌≡◌, ℕ, ◌+◌, ◌-◌, ◌*◌, ◌/◌, ◌%◌, ◌^◌, ◌<◌, ◌≤◌, Bool, true, false, cond, eqb, Some, ap, sym, ◌∙◌, subst, arith, refl, ne_eqb, eqb-true, inl, inr}
use Rattle.std.proofs.lemmas.Bool.{cond_both, cases_Bool, eqb-false}
use Rattle.std.proofs.lemmas.Nat.{shr_below}
use Rattle.tree_key.specs.Keys.{Key, child, ancestor}
use Rattle.tree_key.specs.Laws.{ParentOfChild, ChildOfParent, AncestorOfChild, AncestorOfAncestor, ChildIsKey, ParentIsKey, AncestorIsKey}
use Rattle.tree_key.proofs.PowerLemmas.{quotient_in_steps, twice}
use Rattle.tree_key.proofs.BoxLemmas.{same_key}

-- half of a child's place
half_of_child : (at : ℕ) (side : Bool) → (2 * at + cond side 1 0) / 2 ≡ at
half_of_child at true = omega arith
half_of_child at false = omega arith

pub parent_of_child : ParentOfChild
parent_of_child k side =
    let below : eqb (k.level + 1) 0 ≡ false = ne_eqb (k.level + 1) 0 (λ e. omega arith) in
    rw below
    (ap Some
    (same_key (record { level = k.level + 1 - 1; at = (2 * k.at + cond side 1 0) / 2 }) k (omega arith) (half_of_child k.at side)))

-- odd places are those of right children
twice_and_side : (at : ℕ) → 2 * (at / 2) + cond (eqb (at % 2) 1) 1 0 ≡ at
twice_and_side at =
    cond_both (eqb (at % 2) 1) 1 0 (λ n. 2 * (at / 2) + n ≡ at) (λ e. let odd = eqb-true (at % 2) 1 e in omega arith)
    (λ e. let even = eqb-false (at % 2) 1 e in omega arith)

-- the key above, as `parent` gives it
abbrev above : Key → Key
above k = record { level = k.level - 1; at = k.at / 2 }

pub child_of_parent : ChildOfParent
child_of_parent k p e =
    elim (cases_Bool (eqb k.level 0)) [
      | inl top ↦ let none = rw top at e in absurd (cc)
      | inr below ↦
          let up : Some (above k) ≡ Some p = rw below at e in
          let same : above k ≡ p = cc in
          let under = eqb-false k.level 0 below in
          (eqb (k.at % 2) 1, rw (← same) (same_key (child (above k) (eqb (k.at % 2) 1)) k (omega arith) (twice_and_side k.at)))
    ]

pub ancestor_of_child : AncestorOfChild
ancestor_of_child k side =
    let one : k.level + 1 - k.level ≡ 1 = omega arith in
    same_key (ancestor (child k side) k.level) k refl
    (ap (λ n. (2 * k.at + cond side 1 0) / 2 ^ n) one ∙ half_of_child k.at side)

pub ancestor_of_ancestor : AncestorOfAncestor
ancestor_of_ancestor k m j order within =
    let apart : k.level - j - (k.level - m) ≡ m - j = omega arith in
    let steps = quotient_in_steps k.at (k.level - m) (k.level - j) (omega arith) in
    same_key (ancestor (ancestor k m) j) (ancestor k j) refl
    (sym (steps ∙ ap (λ n. k.at / 2 ^ (k.level - m) / 2 ^ n) apart))

-- a half of what fits below a power fits below the power before
pub half_fits : (level at : ℕ) (side : Bool) → 2 * at + cond side 1 0 < 2 ^ (level + 1) → at < 2 ^ level
half_fits level at true fits = let double = twice level in omega arith
half_fits level at false fits = let double = twice level in omega arith

-- and back
pub child_fits : (level at : ℕ) (side : Bool) → at < 2 ^ level → 2 * at + cond side 1 0 < 2 ^ (level + 1)
child_fits level at true fits = let double = twice level in omega arith
child_fits level at false fits = let double = twice level in omega arith

pub child_is_key : ChildIsKey
child_is_key k side is_key above = record { level = omega arith; at = child_fits k.level k.at side is_key.at }

pub parent_is_key : ParentIsKey
parent_is_key k p is_key e =
    let side = child_of_parent k p e in
    let deep : p.level + 1 ≤ 16 = rw (← side.1) at is_key.level in
    let fits : 2 * p.at + cond side.0 1 0 < 2 ^ (p.level + 1) = rw (← side.1) at is_key.at in
    record { level = omega arith; at = half_fits p.level p.at side.0 fits }

pub ancestor_is_key : AncestorIsKey
ancestor_is_key k level is_key order =
    let parts : k.level ≡ level + (k.level - level) = omega arith in
    record {
      level = omega (arith, is_key.level);
      at = shr_below k.at level (k.level - level) (subst (λ n. k.at < 2 ^ n) parts is_key.at);
    }
