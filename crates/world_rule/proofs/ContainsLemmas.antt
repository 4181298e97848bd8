-- Lemmas that crates above use: the elements of a list that begins with one.
use Rattle.std.proofs.Common.{◌≡◌, ◌⊎◌, zero, suc, List, [], ◌∷◌, refl, inl, inr, arith}
use Rattle.std.specs.Prelude.{Contains, map}

pub contains_none : {X P : Type 0} (x : X) → Contains [] x → P
contains_none x h = absurd (omega (arith, h.1))

pub contains_first : {X : Type 0} (x : X) (xs : List X) → Contains (x ∷ xs) x
contains_first x xs = (0, omega arith, refl)

pub contains_later : {X : Type 0} (y : X) (xs : List X) (x : X) → Contains xs x → Contains (y ∷ xs) x
contains_later y xs x h = (suc h.0, omega (arith, h.1), h.2)

pub contains_cases : {X : Type 0} (y : X) (xs : List X) (x : X) → Contains (y ∷ xs) x → (y ≡ x) ⊎ Contains xs x
contains_cases y xs x (zero, l, e) = inl e
contains_cases y xs x (suc k, l, e) = inr (k, omega (arith, l), e)

pub contains_one : {X : Type 0} (y x : X) → Contains (y ∷ []) x → y ≡ x
contains_one y x (zero, l, e) = e
contains_one y x (suc k, l, e) = absurd (omega (arith, l))

pub contains_mapped : {A B : Type 0} (f : A → B) (xs : List A) (b : B) → Contains (map f xs) b → (a : A) × Contains xs a × (f a ≡ b)
contains_mapped f [] b h = contains_none b h
contains_mapped f (x ∷ xs) b (zero, l, e) = (x, contains_first x xs, e)
contains_mapped f (x ∷ xs) b (suc k, l, e) = let r = contains_mapped f xs b (k, omega (arith, l), e) in (r.0, contains_later x xs r.0 r.1, r.2)
