-- The places that ranks hold are those of the keys that they own.
use Rattle.std.proofs.Common.{◌≡◌, ℕ, zero, suc, ◌+◌, ◌^◌, ◌≤◌, ◌<◌, Bool, true, false, ◌&&◌, not, ◌∷◌, length, refl, sym, ap, ◌∙◌, ⊎_elim, arith}
use Rattle.std.specs.Prelude.{nat_lt, nat_le, ◌==◌, if◌then◌else◌}
use Rattle.std.proofs.lemmas.Bool.{cases_lt, cases_eq, lt-ltb, ltb-true, le-leb, eq-eqb, ne_eqb, and_parts, and_from}
use Rattle.std.proofs.Math.Pow.{pow_mono}
use Rattle.tree_key.specs.Keys.{Key, place_of}
use Rattle.tree_model.specs.Shapes.{is_key_of, key_count}
use Rattle.tree_model.specs.Totals.{Distribution, Visits}
use Rattle.haar_units.specs.Jobs.{DistributedJob}
use Rattle.haar_units.specs.Traversals.{Traversal}
use Rattle.haar_units.specs.Bins.{places, is_held}
use Rattle.haar_units.specs.Totals.{sum_to, one_if, count_below}
use Rattle.haar_units.specs.Places.{key_at, has_place}
use Rattle.haar_units.specs.Distributions.{IsDistributed, IsOverKeys, is_kept, HoldsKeys, HoldsAreOfKeys, CountsAddUp}
use Rattle.haar_units.proofs.BinLemmas.{in_places, of_places}
use Rattle.haar_units.proofs.PlaceLemmas.{places_have_keys, place_below}
use Rattle.haar_units.proofs.SumLemmas.{sum_ext, sum_add, sum_none}
use Rattle.haar_units.proofs.KeyCountLemmas.{count_is, off_root, at_place, owned}

-- a place below a power of two is of a key down to the depth
key_within : (depth x : ℕ) → 1 ≤ x → x < 2 ^ (depth + 1) → is_key_of depth (key_at x) ≡ true
key_within depth x least below =
    let p = places_have_keys x least in
    let is = p.0 in
    let fits = p.1 in
    and_from (nat_le (key_at x).level depth) (nat_lt (key_at x).at (2 ^ (key_at x).level))
    (le-leb (key_at x).level depth (⊎_elim (λ deep. absurd (let more : 2 ^ (depth + 1) ≤ 2 ^ (key_at x).level = pow_mono (let le : depth + 1 ≤ (key_at x).level = omega (arith, deep) in le) in omega (arith, more, is, below))) (λ le. le) (cases_lt depth (key_at x).level)))
    (lt-ltb (key_at x).at (2 ^ (key_at x).level) fits)

places_long : (test : ℕ → Bool) (n : ℕ) → length (places test n) ≡ count_below test n
places_long test zero = refl
places_long test (suc n) = go (test n) (places_long test n)
  where
    go : (b : Bool) → length (places test n) ≡ count_below test n → length (if b then n ∷ places test n else places test n) ≡ one_if b + count_below test n
    go true e = omega (arith, e)
    go false e = omega (arith, e)

module _ (d : Distribution) (job : DistributedJob) (traversal : Traversal) (depth version : ℕ) (keys : Visits) (rank : ℕ) (is : IsDistributed d job) (over : IsOverKeys traversal version keys) where
  held_at : (x : ℕ) → is_held job traversal rank version x ≡ has_place (is_kept d keys rank) x
  held_at zero = λ i. over.visits 0 i && (not (traversal.erases version 0) && (job.owner 0 == rank))
  held_at (suc x) =
      let least : 1 ≤ suc x = omega arith in
      (λ i. (over.visits (suc x) ∙ off_root keys.visited (suc x) least) i && (not ((over.erases (suc x) ∙ off_root keys.erased (suc x) least) i) && (owned d job is (suc x) least i == rank)))
      ∙ sym (off_root (is_kept d keys rank) (suc x) least)

  bound : ℕ
  bound = 2 ^ (depth + 1)

  fits : (k : Key) → is_key_of depth k ≡ true → k.at < 2 ^ k.level
  fits k e = let p = and_parts (nat_le k.level depth) (nat_lt k.at (2 ^ k.level)) e in ltb-true k.at (2 ^ k.level) p.1

  pub held : HoldsKeys d job traversal depth version keys rank
  held = record {
    keys_held = λ k e. (
      (λ h. sym (at_place (is_kept d keys rank) k (fits k e)) ∙ sym (held_at (place_of k)) ∙ (of_places (is_held job traversal rank version) (2 ^ (depth + 1)) (place_of k) h).0),
      (λ t. in_places (is_held job traversal rank version) (2 ^ (depth + 1)) (place_of k) (place_below depth k e) (held_at (place_of k) ∙ at_place (is_kept d keys rank) k (fits k e) ∙ t)),
    );
    only_keys = λ x h.
        let r = of_places (is_held job traversal rank version) (2 ^ (depth + 1)) x h in
        let p = and_parts (nat_lt 0 x) (is_kept d keys rank (key_at x)) (sym (held_at x) ∙ r.0) in
        let some = ltb-true 0 x p.0 in
        let least : 1 ≤ x = omega (arith, some) in
        (key_at x, key_within depth x least r.1, (places_have_keys x least).0);
    number = places_long (is_held job traversal rank version) (2 ^ (depth + 1))
        ∙ sum_ext (λ x. one_if (is_held job traversal rank version x)) (λ x. one_if (has_place (is_kept d keys rank) x)) (2 ^ (depth + 1)) (λ x lt. ap one_if (held_at x))
        ∙ count_is (is_kept d keys rank) depth;
  }

pub holds_of_keys : HoldsAreOfKeys
holds_of_keys d job traversal depth version keys rank is over = held d job traversal depth version keys rank is over

-- one sum after another, in either order
sum_swap : (f : ℕ → ℕ → ℕ) (n m : ℕ) → sum_to (λ a. sum_to (f a) m) n ≡ sum_to (λ b. sum_to (λ a. f a b) n) m
sum_swap f zero m = sym (sum_none (λ b. 0) m (λ b lt. refl))
sum_swap f (suc n) m =
    let rest = sum_swap f n m in
    let both = sum_add (f n) (λ b. sum_to (λ a. f a b) n) m in
    omega (arith, rest, both)

-- a number below a bound is one of the numbers below it
one_of : (o n : ℕ) → o < n → sum_to (λ a. one_if (o == a)) n ≡ 1
one_of o zero lt = absurd (omega (arith, lt))
one_of o (suc n) lt = ⊎_elim
    (λ e.
    let here : one_if (o == n) ≡ 1 = ap one_if (eq-eqb o n e) in
    let none : sum_to (λ a. one_if (o == a)) n ≡ 0 = sum_none (λ a. one_if (o == a)) n (λ a below. ap one_if (ne_eqb o a (λ same. omega (arith, same, below, e)))) in
    omega (arith, here, none))
    (λ ne.
    let here : one_if (o == n) ≡ 0 = ap one_if (ne_eqb o n ne) in
    let apart = ne in
    let rest = one_of o n (omega (arith, lt, apart)) in
    omega (arith, here, rest))
    (cases_eq o n)

none_of : (n : ℕ) → sum_to (λ a. 0) n ≡ 0
none_of n = sum_none (λ a. 0) n (λ a lt. refl)

pub counts_add_up : CountsAddUp
counts_add_up d depth keys within =
    sum_ext (λ rank. key_count depth (is_kept d keys rank)) (λ rank. sum_to (λ x. one_if (has_place (is_kept d keys rank) x)) (2 ^ (depth + 1))) d.ranks (λ rank lt. sym (count_is (is_kept d keys rank) depth))
    ∙ sum_swap (λ rank x. one_if (has_place (is_kept d keys rank) x)) d.ranks (2 ^ (depth + 1))
    ∙ sum_ext (λ x. sum_to (λ rank. one_if (has_place (is_kept d keys rank) x)) d.ranks) (λ x. one_if (has_place (λ k. keys.visited k && not (keys.erased k)) x)) (2 ^ (depth + 1)) (λ x below. at_key x below)
    ∙ count_is (λ k. keys.visited k && not (keys.erased k)) depth
  where
    by_tests : (a b c : Bool) (o : ℕ) → (a ≡ true → b ≡ true → o < d.ranks) → sum_to (λ rank. one_if (a && (b && (not c && (o == rank))))) d.ranks ≡ one_if (a && (b && not c))
    by_tests true true false o lt = one_of o d.ranks (lt refl refl)
    by_tests true true true o lt = none_of d.ranks
    by_tests true false c o lt = none_of d.ranks
    by_tests false b c o lt = none_of d.ranks

    at_key : (x : ℕ) → x < 2 ^ (depth + 1) → sum_to (λ rank. one_if (has_place (is_kept d keys rank) x)) d.ranks ≡ one_if (has_place (λ k. keys.visited k && not (keys.erased k)) x)
    at_key x below = by_tests (nat_lt 0 x) (keys.visited (key_at x)) (keys.erased (key_at x)) (d.owner (key_at x))
        (λ some v. within (key_at x) (let lt = ltb-true 0 x some in key_within depth x (omega (arith, lt)) below))
