-- Lemmas that crates above use: the order of keys, and their places.
use Rattle.std.proofs.Common.{◌≡◌, ℕ, ◌+◌, ◌^◌, ◌<◌, ◌⊎◌, inl, inr, Ordering, Less, Equal, Greater, nat_cmp, ap, sym, ◌∙◌, arith, refl, rules, lit<, lt-ltb}
use Rattle.std.specs.Ordering.{ordering_then}
use Rattle.std.specs.Cmp.{IsTotalOrder}
use Rattle.std.specs.Cmp.Rules.{comparing}
use Rattle.std.specs.FinMap.{IsAntisymmetric, nat_cmp-IsAntisymmetric}
use Rattle.std.proofs.lemmas.Bool.{cases_order}
use Rattle.std.proofs.lemmas.Cmp.{ranked, tied_itself, nat_cmp_total}
use Rattle.std.proofs.lemmas.Nat.{pow_pos}
use Rattle.std.proofs.Math.Nat.{pow-le-pow_right}
use Rattle.tree_key.specs.Keys.{Key, IsKey, place_of, key_cmp}
use Rattle.tree_key.specs.Laws.{PlacesDiffer, PlacesAreInRange, PlacesAreInOrder, OrderTellsApart}
use Rattle.tree_key.proofs.PowerLemmas.{twice}
use Rattle.tree_key.proofs.BoxLemmas.{same_key}

-- the laws of an order, as sorted maps of keys want them
pub keys_total : IsTotalOrder key_cmp
keys_total = search (comparing, rules)

-- a tie of two answers in turn is a tie of each
both_tie : (a b : Ordering) → ordering_then a b ≡ Equal → (a ≡ Equal) × (b ≡ Equal)
both_tie Less b e = (cc, cc)
both_tie Equal b e = (refl, e)
both_tie Greater b e = (cc, cc)

-- no two different keys tie
pub keys_apart : IsAntisymmetric key_cmp
keys_apart a b e =
    let tie = both_tie (nat_cmp a.level b.level) (nat_cmp a.at b.at) e in
    same_key a b (nat_cmp-IsAntisymmetric a.level b.level tie.0) (nat_cmp-IsAntisymmetric a.at b.at tie.1)

pub order_tells_apart : OrderTellsApart
order_tells_apart = keys_apart

-- the order of numbers, as an answer of their comparison
below_from_less : (m n : ℕ) → nat_cmp m n ≡ Less → m < n
below_from_less m n e = ranked m n Less (sym e)

-- and back
less_from_below : (m n : ℕ) → m < n → nat_cmp m n ≡ Less
less_from_below m n below = rw (lt-ltb m n below) refl

-- same numbers tie
equal_from_same : (m n : ℕ) → m ≡ n → nat_cmp m n ≡ Equal
equal_from_same m n same = ap (nat_cmp m) (sym same) ∙ tied_itself nat_cmp_total m

-- less by the first answer, or by the second where the first is a tie
less_parts : (a b : Ordering) → ordering_then a b ≡ Less → (a ≡ Less) ⊎ ((a ≡ Equal) × (b ≡ Less))
less_parts Less b e = inl refl
less_parts Equal b e = inr (refl, e)
less_parts Greater b e = absurd cc

-- places of a level are below all places of the levels under it
level_before : (a b : Key) → IsKey a → a.level < b.level → place_of a < place_of b
level_before a b is_key above =
    let most = pow-le-pow_right {n = 2} (lit< tt) {i = a.level + 1} {j = b.level} (omega arith) in
    let double = twice a.level in
    let fits = is_key.at in
    omega arith

-- a key before another has the lower place
place_from_order : (a b : Key) → IsKey a → key_cmp a b ≡ Less → place_of a < place_of b
place_from_order a b is_key e =
    elim (less_parts (nat_cmp a.level b.level) (nat_cmp a.at b.at) e) [
      | inl level ↦ level_before a b is_key (below_from_less a.level b.level level)
      | inr tie ↦
          let same = ap (λ n. 2 ^ n) (nat_cmp-IsAntisymmetric a.level b.level tie.0) in
          let at = below_from_less a.at b.at tie.1 in
          omega arith
    ]

-- a key of a lower place is before the other
order_from_place : (a b : Key) → IsKey b → place_of a < place_of b → key_cmp a b ≡ Less
order_from_place a b is_key before =
    elim (cases_order a.level b.level) [
      | inl same ↦
          let power = ap (λ n. 2 ^ n) same in
          let at : a.at < b.at = omega arith in
          ap (λ o. ordering_then o (nat_cmp a.at b.at)) (equal_from_same a.level b.level same) ∙ less_from_below a.at b.at at
      | inr other ↦ elim other [
        | inl above ↦ ap (λ o. ordering_then o (nat_cmp a.at b.at)) (less_from_below a.level b.level above)
        | inr under ↦ let after = level_before b a is_key under in absurd (omega arith)
      ]
    ]

pub places_are_in_order : PlacesAreInOrder
places_are_in_order a b is_key other_is_key = (place_from_order a b is_key, order_from_place a b other_is_key)

pub places_differ : PlacesDiffer
places_differ a b is_key other_is_key same =
    elim (cases_order a.level b.level) [
      | inl level ↦
          let power = ap (λ n. 2 ^ n) level in same_key a b level (omega arith)
      | inr other ↦ elim other [
        | inl above ↦ let before = level_before a b is_key above in absurd (omega arith)
        | inr under ↦ let before = level_before b a other_is_key under in absurd (omega arith)
      ]
    ]

pub places_are_in_range : PlacesAreInRange
places_are_in_range k is_key =
    let some = pow_pos k.level in
    let most = pow-le-pow_right {n = 2} (lit< tt) {i = k.level + 1} {j = 17} (omega (arith, is_key.level)) in
    let double = twice k.level in
    let fits = is_key.at in
    (omega arith, omega arith)
