-- Commands that visit the keys of a shape and erase some of them.
use Rattle.std.proofs.Common.{◌≡◌, ℕ, ◌+◌, ◌*◌, ◌^◌, ◌≤◌, ◌<◌, Bool, true, false, ◌&&◌, sym, ap, ◌∙◌, subst, ⊎_elim, arith}
use Rattle.std.specs.Prelude.{nat_lt}
use Rattle.std.proofs.lemmas.Bool.{cases_lt, both_ways, lt-ltb, ltb-true, and_parts, and_from}
use Rattle.tree_key.specs.Keys.{Key, child}
use Rattle.haar_units.specs.Places.{key_at, has_place}
use Rattle.haar_units.specs.Distributions.{KeysAreTraversals}
use Rattle.haar_units.proofs.PlaceLemmas.{left_at, right_at, place_in, place_below}

-- a place of a set of keys
parts : (test : Key → Bool) (x : ℕ) → has_place test x ≡ true → (1 ≤ x) × (test (key_at x) ≡ true)
parts test x h = let p = and_parts (nat_lt 0 x) (test (key_at x)) h in (let lt = ltb-true 0 x p.0 in omega (arith, lt), p.1)

place_has : (test : Key → Bool) (x : ℕ) → 1 ≤ x → test (key_at x) ≡ true → has_place test x ≡ true
place_has test x least e = and_from (nat_lt 0 x) (test (key_at x)) (lt-ltb 0 x (omega (arith, least))) e

-- a set that has both children of a key or none
sides : (test : Key → Bool) → ((k : Key) → test (child k true) ≡ test (child k false)) → (x : ℕ) → 1 ≤ x → has_place test (2 * x + 1) ≡ has_place test (2 * x)
sides test both x least =
    let l = lt-ltb 0 (2 * x) (omega (arith, least)) in
    let r = lt-ltb 0 (2 * x + 1) (omega arith) in
    (λ i. r i && test (right_at x least i)) ∙ both (key_at x) ∙ sym (λ i. l i && test (left_at x least i))

pub traversals_of_keys : KeysAreTraversals
traversals_of_keys job traversal depth command keys are over in_coarsen = record {
  visits_below = λ x v. let h = parts keys.visited x (seen x v) in (h.0, subst (λ (n : ℕ). n < 2 ^ (depth + 1)) (place_in x x (omega arith) h.0) (place_below depth (key_at x) (are.shape.keys (key_at x) h.1)));
  root = over.visits 1 ∙ are.shape.root;
  parents = λ x v. ⊎_elim
      (λ none. absurd (let zero_is : 2 * x ≡ 0 = omega (arith, none) in let h = parts keys.visited (2 * x) (seen (2 * x) v) in let some = h.0 in omega (arith, some, zero_is)))
      (λ some.
      let least : 1 ≤ x = omega (arith, some) in
      let h = parts keys.visited (2 * x) (seen (2 * x) v) in
      over.visits x ∙ place_has keys.visited x least (are.shape.parents (key_at x) false (ap keys.visited (sym (left_at x least)) ∙ h.1)))
      (cases_lt x 1);
  children = λ x least. over.visits (2 * x + 1) ∙ sides keys.visited are.shape.children x least ∙ sym (over.visits (2 * x));
  erases_in_coarsen = λ x e. in_coarsen (key_at x) (parts keys.erased x (gone x e)).1;
  erases_visited = λ x e.
      let h = parts keys.erased x (gone x e) in (
        ⊎_elim
            (λ few. absurd (let one : 1 ≡ x = let least = h.0 in omega (arith, few, least) in both_ways (keys.erased (key_at x)) (ap (λ (n : ℕ). keys.erased (key_at n)) (sym one) ∙ are.root) h.1))
            (λ more. omega (arith, more))
            (cases_lt x 2),
        over.visits x ∙ place_has keys.visited x h.0 (are.visited (key_at x) h.1),
      );
  erases_both = λ x least. over.erases (2 * x + 1) ∙ sides keys.erased are.both x least ∙ sym (over.erases (2 * x));
}
  where
    seen : (x : ℕ) → traversal.visits command x ≡ true → has_place keys.visited x ≡ true
    seen x v = sym (over.visits x) ∙ v

    gone : (x : ℕ) → traversal.erases command x ≡ true → has_place keys.erased x ≡ true
    gone x e = sym (over.erases x) ∙ e
