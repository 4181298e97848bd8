-- Lemmas that crates above use: tests that pass once or never in a list.
use Rattle.std.proofs.Common.{◌≡◌, ℕ, zero, suc, ◌+◌, Bool, true, false, List, [], ◌∷◌, refl, sym, ap, ◌∙◌, arith, cond}
use Rattle.std.specs.Prelude.{Some, slice_get, count_by}
use Rattle.std.proofs.lemmas.List.Sums.{sum_by-cons}

count_cons : {X : Type 0} (test : X → Bool) (x : X) (xs : List X) → count_by test (x ∷ xs) ≡ cond (test x) 1 0 + count_by test xs
count_cons test x xs = sum_by-cons (λ y. cond (test y) 1 0) x xs

count_yes : {X : Type 0} (test : X → Bool) (x : X) (xs : List X) → test x ≡ true → count_by test (x ∷ xs) ≡ 1 + count_by test xs
count_yes test x xs passes = rw (count_cons test x xs, passes) refl

count_no : {X : Type 0} (test : X → Bool) (x : X) (xs : List X) → test x ≡ false → count_by test (x ∷ xs) ≡ count_by test xs
count_no test x xs fails = count_cons test x xs ∙ (rw fails (omega arith))

-- the value of an option is found again
pub some_is : {X : Type 0} (a b : X) → Some a ≡ Some b → a ≡ b
some_is a b e = cc

-- where none passes, each fails
pub none_passes : {X : Type 0} (test : X → Bool) (xs : List X) (i : ℕ) (x : X) → count_by test xs ≡ 0 → slice_get xs i ≡ Some x → test x ≡ false
none_passes test [] i x none at = absurd (cc)
none_passes test (y ∷ ys) zero x none at = head (test y) refl
  where
    same : y ≡ x
    same = some_is y x at

    head : (b : Bool) → test y ≡ b → test x ≡ false
    head true passes = let n = count_yes test y ys passes in absurd (omega (arith, n, none))
    head false fails = ap test (sym same) ∙ fails
none_passes test (y ∷ ys) (suc i) x none at = none_passes test ys i x (rest (test y) refl) at
  where
    rest : (b : Bool) → test y ≡ b → count_by test ys ≡ 0
    rest true passes = let n = count_yes test y ys passes in absurd (omega (arith, n, none))
    rest false fails = sym (count_no test y ys fails) ∙ none

-- where one passes, there is one
pub one_is_there : {X : Type 0} (test : X → Bool) (xs : List X) → count_by test xs ≡ 1 → (i : ℕ) × (x : X) × (slice_get xs i ≡ Some x) × (test x ≡ true)
one_is_there test [] one = absurd (omega (arith, one))
one_is_there {X} test (y ∷ ys) one = head (λ left. one_is_there test ys left) (test y) refl
  where
    further : (i : ℕ) × (x : X) × (slice_get ys i ≡ Some x) × (test x ≡ true) → (i : ℕ) × (x : X) × (slice_get (y ∷ ys) i ≡ Some x) × (test x ≡ true)
    further (i, x, at, here) = (suc i, x, at, here)

    head : (count_by test ys ≡ 1 → (i : ℕ) × (x : X) × (slice_get ys i ≡ Some x) × (test x ≡ true)) → (b : Bool) → test y ≡ b → (i : ℕ) × (x : X) × (slice_get (y ∷ ys) i ≡ Some x) × (test x ≡ true)
    head later true passes = (zero, y, refl, passes)
    head later false fails = further (later (sym (count_no test y ys fails) ∙ one))

-- and any two that pass are at one position
pub one_place : {X : Type 0} (test : X → Bool) (xs : List X) (i j : ℕ) (a b : X) → count_by test xs ≡ 1 → slice_get xs i ≡ Some a → test a ≡ true → slice_get xs j ≡ Some b → test b ≡ true → i ≡ j
one_place test [] i j a b one at_i passes_a at_j passes_b = absurd (omega (arith, one))
one_place test (y ∷ ys) zero zero a b one at_i passes_a at_j passes_b = refl
one_place test (y ∷ ys) zero (suc j) a b one at_i passes_a at_j passes_b =
    let passes : test y ≡ true = ap test (some_is y a at_i) ∙ passes_a in
    let n = count_yes test y ys passes in
    let none : count_by test ys ≡ 0 = omega (arith, n, one) in
    let not_so = none_passes test ys j b none at_j in
    absurd (cc)
one_place test (y ∷ ys) (suc i) zero a b one at_i passes_a at_j passes_b =
    let passes : test y ≡ true = ap test (some_is y b at_j) ∙ passes_b in
    let n = count_yes test y ys passes in
    let none : count_by test ys ≡ 0 = omega (arith, n, one) in
    let not_so = none_passes test ys i a none at_i in
    absurd (cc)
one_place test (y ∷ ys) (suc i) (suc j) a b one at_i passes_a at_j passes_b =
    ap suc (one_place test ys i j a b (rest (test y) refl) at_i passes_a at_j passes_b)
  where
    rest : (c : Bool) → test y ≡ c → count_by test ys ≡ 1
    rest true passes =
        let n = count_yes test y ys passes in
        let none : count_by test ys ≡ 0 = omega (arith, n, one) in
        let not_so = none_passes test ys i a none at_i in
        absurd (cc)
    rest false fails = sym (count_no test y ys fails) ∙ one
