-- The keys of places.
use Rattle.std.proofs.Common.{◌≡◌, ◌≢◌, ◌⊎◌, ℕ, zero, suc, ◌+◌, ◌*◌, ◌/◌, ◌%◌, ◌^◌, ◌≤◌, ◌<◌, Bool, true, false, refl, sym, ap, ◌∙◌, ⊎_elim, arith}
use Rattle.std.specs.Prelude.{nat_lt, nat_le, ◌==◌, if◌then◌else◌}
use Rattle.std.proofs.lemmas.Bool.{cases_lt, cond-true, cond-false, lt-ltb, le-ltb, ltb-true, leb-true, eq-eqb, ne_eqb, eqb-true, eqb-false, and_parts}
use Rattle.std.proofs.lemmas.Nat.{pow-add}
use Rattle.std.proofs.Math.Pow.{pow_mono}
use Rattle.tree_key.specs.Keys.{Key, root, child, place_of}
use Rattle.tree_model.specs.Shapes.{is_key_of}
use Rattle.haar_units.specs.Places.{key_in, key_at, PlacesHaveKeys, KeysHavePlaces}

-- any number of steps that is large enough finds the same key
steps_same : (n m x : ℕ) → x ≤ n → x ≤ m → key_in n x ≡ key_in m x
steps_same zero zero x few less = refl
steps_same zero (suc m) x few less = sym (cond-false (nat_lt 1 x) (child (key_in m (x / 2)) (x % 2 == 1)) root (le-ltb 1 x (omega (arith, few))))
steps_same (suc n) zero x few less = cond-false (nat_lt 1 x) (child (key_in n (x / 2)) (x % 2 == 1)) root (le-ltb 1 x (omega (arith, less)))
steps_same (suc n) (suc m) x few less = go (λ a b. steps_same n m (x / 2) a b) (cases_lt 1 x)
  where
    go : (x / 2 ≤ n → x / 2 ≤ m → key_in n (x / 2) ≡ key_in m (x / 2)) → (1 < x) ⊎ (x ≤ 1) → key_in (suc n) x ≡ key_in (suc m) x
    go rec = ⊎_elim
        (λ lt. ap (λ (k : Key). if nat_lt 1 x then child k (x % 2 == 1) else root) (rec (omega (arith, few, lt)) (omega (arith, less, lt))))
        (λ one. let e = le-ltb 1 x one in cond-false (nat_lt 1 x) (child (key_in n (x / 2)) (x % 2 == 1)) root e ∙ sym (cond-false (nat_lt 1 x) (child (key_in m (x / 2)) (x % 2 == 1)) root e))

-- the key of a child's place
pub child_at : (x y : ℕ) (side : Bool) → 1 ≤ x → y / 2 ≡ x → (y % 2 == 1) ≡ side → key_at y ≡ child (key_at x) side
child_at x zero side least half odd = absurd (omega (arith, least, half))
child_at x (suc y) side least half odd =
    let lt : 1 < suc y = omega (arith, least, half) in
    let few : suc y / 2 ≤ y = omega (arith, lt) in
    let below : suc y / 2 ≤ suc y / 2 = omega arith in
    cond-true (nat_lt 1 (suc y)) (child (key_in y (suc y / 2)) (suc y % 2 == 1)) root (lt-ltb 1 (suc y) lt)
    ∙ ap (λ (k : Key). child k (suc y % 2 == 1)) (steps_same y (suc y / 2) (suc y / 2) few below)
    ∙ (λ i. child (key_at (half i)) (odd i))

pub left_at : (x : ℕ) → 1 ≤ x → key_at (2 * x) ≡ child (key_at x) false
left_at x least = child_at x (2 * x) false least (omega arith) (ne_eqb (2 * x % 2) 1 (λ e. omega (arith, e)))

pub right_at : (x : ℕ) → 1 ≤ x → key_at (2 * x + 1) ≡ child (key_at x) true
right_at x least = child_at x (2 * x + 1) true least (omega arith) (eq-eqb ((2 * x + 1) % 2) 1 (omega arith))

-- the place of the key of a place
pub place_in : (n x : ℕ) → x ≤ n → 1 ≤ x → place_of (key_in n x) ≡ x
place_in zero x few least = absurd (omega (arith, few, least))
place_in (suc n) x few least = go (λ a b. place_in n (x / 2) a b) (cases_lt 1 x)
  where
    of_child : (k : Key) (side : Bool) → place_of k ≡ x / 2 → (x % 2 == 1) ≡ side → place_of (child k side) ≡ x
    of_child k side p e = by_side side e
      where
        by_side : (side : Bool) → (x % 2 == 1) ≡ side → place_of (child k side) ≡ x
        by_side true e = let power : 2 ^ (k.level + 1) ≡ 2 ^ k.level * 2 = pow-add 2 k.level 1 in let odd = eqb-true (x % 2) 1 e in omega (arith, p, power, odd)
        by_side false e = let power : 2 ^ (k.level + 1) ≡ 2 ^ k.level * 2 = pow-add 2 k.level 1 in let even : x % 2 ≢ 1 = eqb-false (x % 2) 1 e in omega (arith, p, power, even)

    go : (x / 2 ≤ n → 1 ≤ x / 2 → place_of (key_in n (x / 2)) ≡ x / 2) → (1 < x) ⊎ (x ≤ 1) → place_of (key_in (suc n) x) ≡ x
    go rec = ⊎_elim
        (λ lt. ap place_of (cond-true (nat_lt 1 x) (child (key_in n (x / 2)) (x % 2 == 1)) root (lt-ltb 1 x lt)) ∙ of_child (key_in n (x / 2)) (x % 2 == 1) (rec (omega (arith, few, lt)) (omega (arith, lt))) refl)
        (λ one. ap place_of (cond-false (nat_lt 1 x) (child (key_in n (x / 2)) (x % 2 == 1)) root (le-ltb 1 x one)) ∙ (let is : 1 ≡ x = omega (arith, one, least) in is))

pub place_below : (depth : ℕ) (k : Key) → is_key_of depth k ≡ true → place_of k < 2 ^ (depth + 1)
place_below depth k e =
    let p = and_parts (nat_le k.level depth) (nat_lt k.at (2 ^ k.level)) e in
    let level = leb-true k.level depth p.0 in
    let at = ltb-true k.at (2 ^ k.level) p.1 in
    let more = pow_mono level in
    let next : 2 ^ (depth + 1) ≡ 2 ^ depth * 2 = pow-add 2 depth 1 in
    omega (arith, at, more, next)

-- the key of a place has a translation of its level
at_in : (n x : ℕ) → (key_in n x).at < 2 ^ (key_in n x).level
at_in zero x = omega arith
at_in (suc n) x = go (nat_lt 1 x) (at_in n (x / 2))
  where
    go : (b : Bool) → (key_in n (x / 2)).at < 2 ^ (key_in n (x / 2)).level → (if b then child (key_in n (x / 2)) (x % 2 == 1) else root).at < 2 ^ (if b then child (key_in n (x / 2)) (x % 2 == 1) else root).level
    go true lt = by_side (x % 2 == 1)
      where
        by_side : (side : Bool) → (child (key_in n (x / 2)) side).at < 2 ^ (child (key_in n (x / 2)) side).level
        by_side true = let power : 2 ^ ((key_in n (x / 2)).level + 1) ≡ 2 ^ (key_in n (x / 2)).level * 2 = pow-add 2 (key_in n (x / 2)).level 1 in omega (arith, lt, power)
        by_side false = let power : 2 ^ ((key_in n (x / 2)).level + 1) ≡ 2 ^ (key_in n (x / 2)).level * 2 = pow-add 2 (key_in n (x / 2)).level 1 in omega (arith, lt, power)
    go false lt = omega arith

pub places_have_keys : PlacesHaveKeys
places_have_keys x least = (place_in x x (omega arith) least, at_in x x)

-- keys of one place are of one level
not_above : (a b : Key) → a.at < 2 ^ a.level → place_of a ≡ place_of b → b.level ≤ a.level
not_above a b fits same = ⊎_elim (λ lt. go lt) (λ le. le) (cases_lt a.level b.level)
  where
    go : a.level < b.level → b.level ≤ a.level
    go lt =
        let le : a.level + 1 ≤ b.level = omega (arith, lt) in
        let more : 2 ^ (a.level + 1) ≤ 2 ^ b.level = pow_mono le in
        let power : 2 ^ (a.level + 1) ≡ 2 ^ a.level * 2 = pow-add 2 a.level 1 in
        absurd (omega (arith, fits, same, more, power))

same_key : (a b : Key) → a.at < 2 ^ a.level → b.at < 2 ^ b.level → place_of a ≡ place_of b → a ≡ b
same_key a b fits fit same =
    let one = not_above a b fits same in
    let two = not_above b a fit (sym same) in
    let level : a.level ≡ b.level = omega (arith, one, two) in
    let power : 2 ^ a.level ≡ 2 ^ b.level = ap (λ (n : ℕ). 2 ^ n) level in
    let at : a.at ≡ b.at = omega (arith, same, power) in
    λ i. record { level = level i; at = at i }

pub keys_have_places : KeysHavePlaces
keys_have_places k fits =
    let least : 1 ≤ place_of k = let some : 1 ≤ 2 ^ k.level = pow_mono {i = 0} {j = k.level} (omega arith) in omega (arith, some) in
    let p = places_have_keys (place_of k) least in
    same_key (key_at (place_of k)) k p.1 fits p.0
