-- The list of the labels that pass a test has each of them once, and no others.
use Rattle.std.proofs.Common.{◌≡◌, ℕ, zero, suc, ◌<◌, Bool, true, false, List, [], ◌∷◌, refl, sym, ap, ◌∙◌, subst, inl, inr, ⊎_elim, arith}
use Rattle.std.specs.Prelude.{if◌then◌else◌, Contains}
use Rattle.std.proofs.lemmas.Bool.{cases_eq}
use Rattle.app_core.specs.declared.label.Label.{Label}
use Rattle.event_laws.specs.Apart.{Apart}
use Rattle.event_laws.proofs.MatchingListLemmas.{Has, Distinct, has_left, has_right, has_parts, distinct_append, contains_has, has_contains}
use Rattle.haar_units.specs.Units.{label}
use Rattle.haar_units.specs.LabelLists.{labels_of_part, labels_of_command, labels_that_pass}

-- a label of the list of one part
record InRow (test : Label → Bool) (c p n : ℕ) (u : Label) : Type 0 where
  passes : test u ≡ true
  command : u.command ≡ c
  part : u.part ≡ p
  below : u.place < n

in_row : (test : Label → Bool) (c p n : ℕ) (u : Label) → Has (labels_of_part test c p n) u → InRow test c p n u
in_row test c p zero u h = absurd h
in_row test c p (suc x) u h = go (in_row test c p x u) (test (label c p x)) refl h
  where
    more : InRow test c p x u → InRow test c p (suc x) u
    more r = record { passes = r.passes; command = r.command; part = r.part; below = let lt = r.below in omega (arith, lt) }

    go : (Has (labels_of_part test c p x) u → InRow test c p x u) → (b : Bool) → test (label c p x) ≡ b → Has (if b then label c p x ∷ labels_of_part test c p x else labels_of_part test c p x) u → InRow test c p (suc x) u
    go rec true t (inl e) = subst (InRow test c p (suc x)) e (record { passes = t; command = refl; part = refl; below = omega arith })
    go rec true t (inr h) = more (rec h)
    go rec false t h = more (rec h)

row_has : (test : Label → Bool) (c p n x : ℕ) → x < n → test (label c p x) ≡ true → Has (labels_of_part test c p n) (label c p x)
row_has test c p zero x lt t = absurd (omega (arith, lt))
row_has test c p (suc y) x lt t = go (λ l. row_has test c p y x l t) (test (label c p y)) refl
  where
    at : (b : Bool) → test (label c p y) ≡ b → y ≡ x → Has (if b then label c p y ∷ labels_of_part test c p y else labels_of_part test c p y) (label c p x)
    at true s e = inl (ap (label c p) e)
    at false s e = absurd (let both : false ≡ true = sym s ∙ ap (λ (n : ℕ). test (label c p n)) e ∙ t in cc)

    later : (b : Bool) → Has (labels_of_part test c p y) (label c p x) → Has (if b then label c p y ∷ labels_of_part test c p y else labels_of_part test c p y) (label c p x)
    later true h = inr h
    later false h = h

    go : (x < y → Has (labels_of_part test c p y) (label c p x)) → (b : Bool) → test (label c p y) ≡ b → Has (if b then label c p y ∷ labels_of_part test c p y else labels_of_part test c p y) (label c p x)
    go rec b s = ⊎_elim (λ e. at b s e) (λ no. later b (rec (let apart = no in omega (arith, lt, apart)))) (cases_eq y x)

row_distinct : (test : Label → Bool) (c p n : ℕ) → Distinct (labels_of_part test c p n)
row_distinct test c p zero = tt
row_distinct test c p (suc x) = go (test (label c p x)) (row_distinct test c p x)
  where
    go : (b : Bool) → Distinct (labels_of_part test c p x) → Distinct (if b then label c p x ∷ labels_of_part test c p x else labels_of_part test c p x)
    go true d = ((λ h. let lt = (in_row test c p x (label c p x) h).below in omega (arith, lt)), d)
    go false d = d

record InRows (test : Label → Bool) (c parts n : ℕ) (u : Label) : Type 0 where
  passes : test u ≡ true
  command : u.command ≡ c
  part : u.part < parts

in_rows : (test : Label → Bool) (c parts n : ℕ) (u : Label) → Has (labels_of_command test c parts n) u → InRows test c parts n u
in_rows test c zero n u h = absurd h
in_rows test c (suc p) n u h = ⊎_elim
    (λ a. let r = in_row test c p n u a in record { passes = r.passes; command = r.command; part = let e = r.part in omega (arith, e) })
    (λ b. let r = in_rows test c p n u b in record { passes = r.passes; command = r.command; part = let e = r.part in omega (arith, e) })
    (has_parts (labels_of_part test c p n) (labels_of_command test c p n) u h)

rows_has : (test : Label → Bool) (c parts n p x : ℕ) → p < parts → x < n → test (label c p x) ≡ true → Has (labels_of_command test c parts n) (label c p x)
rows_has test c zero n p x lt few t = absurd (omega (arith, lt))
rows_has test c (suc q) n p x lt few t = ⊎_elim
    (λ e. has_left (labels_of_part test c q n) (labels_of_command test c q n) (label c p x) (subst (λ (z : ℕ). Has (labels_of_part test c z n) (label c p x)) (sym e) (row_has test c p n x few t)))
    (λ no. has_right (labels_of_part test c q n) (labels_of_command test c q n) (label c p x) (rows_has test c q n p x (let apart = no in omega (arith, lt, apart)) few t))
    (cases_eq q p)

rows_distinct : (test : Label → Bool) (c parts n : ℕ) → Distinct (labels_of_command test c parts n)
rows_distinct test c zero n = tt
rows_distinct test c (suc p) n = distinct_append (labels_of_part test c p n) (labels_of_command test c p n) (row_distinct test c p n) (rows_distinct test c p n)
    (λ u h k. let a = (in_row test c p n u h).part in let b = (in_rows test c p n u k).part in omega (arith, a, b))

record InList (test : Label → Bool) (commands : ℕ) (u : Label) : Type 0 where
  passes : test u ≡ true
  command : u.command < commands

in_list : (test : Label → Bool) (commands parts n : ℕ) (u : Label) → Has (labels_that_pass test commands parts n) u → InList test commands u
in_list test zero parts n u h = absurd h
in_list test (suc c) parts n u h = ⊎_elim
    (λ a. let r = in_rows test c parts n u a in record { passes = r.passes; command = let e = r.command in omega (arith, e) })
    (λ b. let r = in_list test c parts n u b in record { passes = r.passes; command = let e = r.command in omega (arith, e) })
    (has_parts (labels_of_command test c parts n) (labels_that_pass test c parts n) u h)

list_has : (test : Label → Bool) (commands parts n c p x : ℕ) → c < commands → p < parts → x < n → test (label c p x) ≡ true → Has (labels_that_pass test commands parts n) (label c p x)
list_has test zero parts n c p x lt few below t = absurd (omega (arith, lt))
list_has test (suc d) parts n c p x lt few below t = ⊎_elim
    (λ e. has_left (labels_of_command test d parts n) (labels_that_pass test d parts n) (label c p x) (subst (λ (z : ℕ). Has (labels_of_command test z parts n) (label c p x)) (sym e) (rows_has test c parts n p x few below t)))
    (λ no. has_right (labels_of_command test d parts n) (labels_that_pass test d parts n) (label c p x) (list_has test d parts n c p x (let apart = no in omega (arith, lt, apart)) few below t))
    (cases_eq d c)

list_distinct : (test : Label → Bool) (commands parts n : ℕ) → Distinct (labels_that_pass test commands parts n)
list_distinct test zero parts n = tt
list_distinct test (suc c) parts n = distinct_append (labels_of_command test c parts n) (labels_that_pass test c parts n) (rows_distinct test c parts n) (list_distinct test c parts n)
    (λ u h k. let a = (in_rows test c parts n u h).command in let b = (in_list test c parts n u k).command in omega (arith, a, b))

distinct_apart : (us : List Label) → Distinct us → Apart us
distinct_apart [] d = tt
distinct_apart (u ∷ us) d = ((λ h. d.0 (contains_has us u h)), distinct_apart us d.1)

pub listed_apart : (test : Label → Bool) (commands parts n : ℕ) → Apart (labels_that_pass test commands parts n)
listed_apart test commands parts n = distinct_apart (labels_that_pass test commands parts n) (list_distinct test commands parts n)

pub listed_passes : (test : Label → Bool) (commands parts n : ℕ) (u : Label) → Contains (labels_that_pass test commands parts n) u → test u ≡ true
listed_passes test commands parts n u h = (in_list test commands parts n u (contains_has (labels_that_pass test commands parts n) u h)).passes

pub passes_listed : (test : Label → Bool) (commands parts n : ℕ) (u : Label) → u.command < commands → u.part < parts → u.place < n → test u ≡ true → Contains (labels_that_pass test commands parts n) u
passes_listed test commands parts n u c p x t = has_contains (labels_that_pass test commands parts n) u (list_has test commands parts n u.command u.part u.place c p x t)
