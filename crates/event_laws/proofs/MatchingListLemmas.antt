-- Lemmas that crates above use: lists that have each element once, and lists that match, element by element.
use Rattle.std.proofs.Common.{◌≡◌, ◌⊎◌, zero, suc, ◌+◌, ◌≤◌, List, [], ◌∷◌, ◌++◌, length, refl, sym, ap, ◌∙◌, subst, inl, inr, ⊎_elim, arith, length-append}
use Rattle.std.specs.Prelude.{Contains}
use Rattle.app_core.specs.declared.label.Label.{Label}
use Rattle.event_laws.specs.Apart.{Apart}

abbrev pub Has : {A : Type 0} → List A → A → Type 0
Has [] a = ⊥
Has (x ∷ xs) a = (x ≡ a) ⊎ Has xs a

-- no element is there twice
abbrev pub Distinct : {A : Type 0} → List A → Type 0
Distinct [] = Unit {0}
Distinct (x ∷ xs) = (Has xs x → ⊥) × Distinct xs

pub has_left : {A : Type 0} (xs ys : List A) (a : A) → Has xs a → Has (xs ++ ys) a
has_left [] ys a h = absurd h
has_left (x ∷ xs) ys a (inl e) = inl e
has_left (x ∷ xs) ys a (inr h) = inr (has_left xs ys a h)

pub has_right : {A : Type 0} (xs ys : List A) (a : A) → Has ys a → Has (xs ++ ys) a
has_right [] ys a h = h
has_right (x ∷ xs) ys a h = inr (has_right xs ys a h)

pub has_parts : {A : Type 0} (xs ys : List A) (a : A) → Has (xs ++ ys) a → Has xs a ⊎ Has ys a
has_parts [] ys a h = inr h
has_parts (x ∷ xs) ys a (inl e) = inl (inl e)
has_parts (x ∷ xs) ys a (inr h) = ⊎_elim (λ l. inl (inr l)) (λ r. inr r) (has_parts xs ys a h)

pub distinct_append : {A : Type 0} (xs ys : List A) → Distinct xs → Distinct ys → ((a : A) → Has xs a → Has ys a → ⊥) → Distinct (xs ++ ys)
distinct_append [] ys d e apart = e
distinct_append (x ∷ xs) ys d e apart = (
  (λ h. ⊎_elim (λ l. d.0 l) (λ r. apart x (inl refl) r) (has_parts xs ys x h)),
  distinct_append xs ys d.1 e (λ a h k. apart a (inr h) k),
)

split : {A : Type 0} (ys : List A) (y : A) → Has ys y → (front : List A) × (back : List A) × (ys ≡ front ++ y ∷ back)
split [] y h = absurd h
split (z ∷ ys) y (inl e) = ([], ys, ap (λ w. w ∷ ys) e)
split (z ∷ ys) y (inr h) = let s = split ys y h in (z ∷ s.0, s.1, ap (λ w. z ∷ w) s.2)

without : {A : Type 0} (front back : List A) (y a : A) → Has (front ++ y ∷ back) a → (y ≡ a) ⊎ Has (front ++ back) a
without front back y a h = ⊎_elim
    (λ l. inr (has_left front back a l))
    (λ r. ⊎_elim (λ e. inl e) (λ b. inr (has_right front back a b)) r)
    (has_parts front (y ∷ back) a h)

-- where each of the first list has one of the second, and no two have the same one, the first isn't longer
pub fits : {A B : Type 0} (R : A → B → Type 0) (xs : List A) (ys : List B) → Distinct xs → ((x : A) → Has xs x → (y : B) × Has ys y × R x y) → ((x z : A) (y : B) → R x y → R z y → x ≡ z) → length xs ≤ length ys
fits R [] ys d into one = omega arith
fits {A} {B} R (x ∷ xs) ys d into one =
    let m = into x (inl refl) in
    let s = split ys m.0 m.1 in
    let rest = fits R xs (s.0 ++ s.1) d.1 (λ z h. again m.0 m.2 s.0 s.1 s.2 z h) one in
    let long : length ys ≡ length s.0 + suc (length s.1) = ap length s.2 ∙ length-append s.0 (m.0 ∷ s.1) in
    omega (arith, rest, long, length-append s.0 s.1)
  where
    again : (y : B) → R x y → (front back : List B) → ys ≡ front ++ y ∷ back → (z : A) → Has xs z → (w : B) × Has (front ++ back) w × R z w
    again y is front back whole z h =
        let m = into z (inr h) in
        ⊎_elim
        (λ (e : y ≡ m.0). absurd (d.0 (subst (Has xs) (sym (one x z y is (subst (R z) (sym e) m.2))) h)))
        (λ (k : Has (front ++ back) m.0). (m.0, k, m.2))
        (without front back y m.0 (subst (λ (l : List B). Has l m.0) whole m.1))

abbrev turned : {A B : Type 0} → (A → B → Type 0) → B → A → Type 0
turned R b a = R a b

pub matched : {A B : Type 0} (R : A → B → Type 0) (xs : List A) (ys : List B) → Distinct xs → Distinct ys
    → ((x : A) → Has xs x → (y : B) × Has ys y × R x y) → ((y : B) → Has ys y → (x : A) × Has xs x × R x y)
    → ((x z : A) (y : B) → R x y → R z y → x ≡ z) → ((x : A) (y z : B) → R x y → R x z → y ≡ z) → length xs ≡ length ys
matched R xs ys d e into back one same = omega (arith, fits R xs ys d into one, fits (turned R) ys xs e back (λ y z x a b. same x y z a b))

-- labels
pub contains_has : (us : List Label) (u : Label) → Contains us u → Has us u
contains_has [] u (k, lt, e) = absurd (omega (arith, lt))
contains_has (v ∷ us) u (zero, lt, e) = inl e
contains_has (v ∷ us) u (suc k, lt, e) = inr (contains_has us u (k, omega (arith, lt), e))

pub has_contains : (us : List Label) (u : Label) → Has us u → Contains us u
has_contains [] u h = absurd h
has_contains (v ∷ us) u (inl e) = (0, omega arith, e)
has_contains (v ∷ us) u (inr h) = let r = has_contains us u h in (suc r.0, omega (arith, r.1), r.2)

pub apart_distinct : (us : List Label) → Apart us → Distinct us
apart_distinct [] a = tt
apart_distinct (u ∷ us) a = ((λ h. a.0 (has_contains us u h)), apart_distinct us a.1)
