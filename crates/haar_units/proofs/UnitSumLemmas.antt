-- Sums over the units of a list, and the messages of a program's starts.
use Rattle.std.proofs.Common.{◌≡◌, ℕ, zero, suc, ◌+◌, Bool, true, false, List, [], ◌∷◌, ◌++◌, length, refl, sym, ap, ◌∙◌, subst, arith}
use Rattle.std.specs.Prelude.{if◌then◌else◌, nat_lt, Some, map, slice_get}
use Rattle.std.proofs.lemmas.Bool.{lt-ltb, le-ltb, ltb-true, ltb-false}
use Rattle.app_core.specs.declared.label.Label.{Label}
use Rattle.app_core.specs.declared.outline.Outline.{Outline}
use Rattle.app_core.specs.declared.outline.CommandKind.{CommandKind}
use Rattle.app_core.specs.declared.outline.CommandKind.TheVariants.{Work, Fence}
use Rattle.event_laws.specs.Follows.{Doing, Start, Wait, program_from}
use Rattle.event_laws.specs.Held.{fences_before}
use Rattle.event_laws.specs.Totals.{sends_of, unit_sends, start_sends}
use Rattle.haar_units.specs.Units.{label}
use Rattle.haar_units.specs.LabelLists.{labels_of_part, labels_of_command, labels_that_pass}
use Rattle.haar_units.specs.Totals.{sum_to}
use Rattle.haar_units.proofs.SumLemmas.{sum_ext, sum_none, sum_front, drop_it, pick}

abbrev pub weigh : (Label → ℕ) → List Label → ℕ
weigh w [] = 0
weigh w (u ∷ us) = w u + weigh w us

pub sends_weigh : (plan : Label → List Outline) (home : Label → ℕ) (us : List Label) → unit_sends plan home us ≡ weigh (λ u. sends_of (home u) (plan u)) us
sends_weigh plan home [] = refl
sends_weigh plan home (u ∷ us) = ap (λ (n : ℕ). sends_of (home u) (plan u) + n) (sends_weigh plan home us)

pub length_weighs : (us : List Label) → length us ≡ weigh (λ u. 1) us
length_weighs [] = refl
length_weighs (u ∷ us) = let rest = length_weighs us in omega (arith, rest)

weigh_append : (w : Label → ℕ) (us vs : List Label) → weigh w (us ++ vs) ≡ weigh w us + weigh w vs
weigh_append w [] vs = omega arith
weigh_append w (u ∷ us) vs = let rest = weigh_append w us vs in omega (arith, rest)

weigh_row : (w : Label → ℕ) (test : Label → Bool) (c p n : ℕ) → weigh w (labels_of_part test c p n) ≡ sum_to (λ x. if test (label c p x) then w (label c p x) else 0) n
weigh_row w test c p zero = refl
weigh_row w test c p (suc x) = go (weigh_row w test c p x) (test (label c p x))
  where
    go : weigh w (labels_of_part test c p x) ≡ sum_to (λ x. if test (label c p x) then w (label c p x) else 0) x → (b : Bool)
        → weigh w (if b then label c p x ∷ labels_of_part test c p x else labels_of_part test c p x) ≡ (if b then w (label c p x) else 0) + sum_to (λ x. if test (label c p x) then w (label c p x) else 0) x
    go e true = ap (λ (n : ℕ). w (label c p x) + n) e
    go e false = omega (arith, e)

-- the sum over the units of one command, part by part
abbrev pub part_sum : (ℕ → ℕ → Bool) → (ℕ → ℕ → ℕ) → ℕ → ℕ → ℕ
part_sum test value n part = sum_to (λ x. if test part x then value part x else 0) n

abbrev pub five : (ℕ → ℕ → Bool) → (ℕ → ℕ → ℕ) → ℕ → ℕ
five test value n = part_sum test value n 4 + (part_sum test value n 3 + (part_sum test value n 2 + (part_sum test value n 1 + part_sum test value n 0)))

weigh_five : (w : Label → ℕ) (test : Label → Bool) (c n : ℕ) → weigh w (labels_of_command test c 5 n) ≡ five (λ p x. test (label c p x)) (λ p x. w (label c p x)) n
weigh_five w test c n =
    let a = weigh_append w (labels_of_part test c 4 n) (labels_of_command test c 4 n) in
    let b = weigh_append w (labels_of_part test c 3 n) (labels_of_command test c 3 n) in
    let d = weigh_append w (labels_of_part test c 2 n) (labels_of_command test c 2 n) in
    let e = weigh_append w (labels_of_part test c 1 n) (labels_of_command test c 1 n) in
    let f = weigh_append w (labels_of_part test c 0 n) [] in
    let p4 = weigh_row w test c 4 n in
    let p3 = weigh_row w test c 3 n in
    let p2 = weigh_row w test c 2 n in
    let p1 = weigh_row w test c 1 n in
    let p0 = weigh_row w test c 0 n in
    omega (arith, a, b, d, e, f, p4, p3, p2, p1, p0)

pub weigh_listed : (w : Label → ℕ) (test : Label → Bool) (commands n : ℕ) → weigh w (labels_that_pass test commands 5 n) ≡ sum_to (λ c. five (λ p x. test (label c p x)) (λ p x. w (label c p x)) n) commands
weigh_listed w test zero n = refl
weigh_listed w test (suc c) n =
    let rest = weigh_listed w test c n in
    let a = weigh_append w (labels_of_command test c 5 n) (labels_that_pass test c 5 n) in
    let b = weigh_five w test c n in
    omega (arith, a, b, rest)

-- messages of starts

sends_append : (e : ℕ) (xs : List Outline) (ds : List Doing) → start_sends (suc e) (map Start xs ++ ds) ≡ sends_of 0 xs + start_sends (suc e) ds
sends_append e [] ds = omega arith
sends_append e (x ∷ xs) ds = let rest = sends_append e xs ds in omega (arith, rest)

none_sent : (f : ℕ) → start_sends f (Wait ∷ []) ≡ 0
none_sent zero = refl
none_sent (suc zero) = refl
none_sent (suc (suc f)) = refl

abbrev pub start_sum : (ℕ → List Outline) → ℕ → List CommandKind → ℕ → ℕ → ℕ
start_sum starts b ks f i = if nat_lt (fences_before (suc i) ks) f then sends_of 0 (starts (b + i)) else 0

pub both_more : (a e : ℕ) → nat_lt (suc a) (suc e) ≡ nat_lt a e
both_more a e = go (nat_lt a e) refl
  where
    go : (b : Bool) → nat_lt a e ≡ b → nat_lt (suc a) (suc e) ≡ b
    go true t = lt-ltb (suc a) (suc e) (let lt = ltb-true a e t in omega (arith, lt))
    go false t = le-ltb (suc a) (suc e) (let le = ltb-false a e t in omega (arith, le))

pub starts_sent : (starts : ℕ → List Outline) (b : ℕ) (ks : List CommandKind) (f : ℕ) → ((i : ℕ) → slice_get ks i ≡ Some Fence → sends_of 0 (starts (b + i)) ≡ 0)
    → start_sends f (program_from b ks starts) ≡ sum_to (start_sum starts b ks f) (length ks)
starts_sent starts b [] f quiet = none_sent f
starts_sent starts b (k ∷ ks) zero quiet = sym (sum_none (start_sum starts b (k ∷ ks) 0) (length (k ∷ ks)) (λ i lt. drop_it (nat_lt (fences_before (suc i) (k ∷ ks)) 0) (sends_of 0 (starts (b + i))) 0 (le-ltb (fences_before (suc i) (k ∷ ks)) 0 (omega arith))))
starts_sent starts b (Work ∷ ks) (suc e) quiet =
    let rest = starts_sent starts (suc b) ks (suc e) (λ i at. let next : b + suc i ≡ suc b + i = omega arith in subst (λ (n : ℕ). sends_of 0 (starts n) ≡ 0) next (quiet (suc i) at)) in
    let here = sends_append e (starts b) (program_from (suc b) ks starts) in
    let front = sum_front (start_sum starts b (Work ∷ ks) (suc e)) (length ks) in
    let first : start_sum starts b (Work ∷ ks) (suc e) 0 ≡ sends_of 0 (starts b) = pick (nat_lt 0 (suc e)) (sends_of 0 (starts (b + 0))) 0 (lt-ltb 0 (suc e) (omega arith)) ∙ (let same : b + 0 ≡ b = omega arith in ap (λ (n : ℕ). sends_of 0 (starts n)) same) in
    let others : sum_to (λ i. start_sum starts b (Work ∷ ks) (suc e) (suc i)) (length ks) ≡ sum_to (start_sum starts (suc b) ks (suc e)) (length ks) =
    sum_ext (λ i. start_sum starts b (Work ∷ ks) (suc e) (suc i)) (start_sum starts (suc b) ks (suc e)) (length ks) (λ i lt. let next : b + suc i ≡ suc b + i = omega arith in ap (λ (n : ℕ). if nat_lt (fences_before (suc i) ks) (suc e) then sends_of 0 (starts n) else 0) next) in
    here ∙ ap (λ (n : ℕ). sends_of 0 (starts b) + n) rest ∙ sym (front ∙ (λ i. first i + others i))
starts_sent starts b (Fence ∷ ks) (suc e) quiet =
    let rest = starts_sent starts (suc b) ks e (λ i at. let next : b + suc i ≡ suc b + i = omega arith in subst (λ (n : ℕ). sends_of 0 (starts n) ≡ 0) next (quiet (suc i) at)) in
    let front = sum_front (start_sum starts b (Fence ∷ ks) (suc e)) (length ks) in
    let first : start_sum starts b (Fence ∷ ks) (suc e) 0 ≡ 0 = no_more (nat_lt (fences_before 1 (Fence ∷ ks)) (suc e)) (sends_of 0 (starts (b + 0))) (quiet 0 refl) in
    let others : sum_to (λ i. start_sum starts b (Fence ∷ ks) (suc e) (suc i)) (length ks) ≡ sum_to (start_sum starts (suc b) ks e) (length ks) =
    sum_ext (λ i. start_sum starts b (Fence ∷ ks) (suc e) (suc i)) (start_sum starts (suc b) ks e) (length ks)
    (λ i lt. let next : b + suc i ≡ suc b + i = omega arith in (λ j. if both_more (fences_before (suc i) ks) e j then sends_of 0 (starts (next j)) else 0)) in
    rest ∙ sym (front ∙ (λ i. first i + others i) ∙ zero_more (sum_to (start_sum starts (suc b) ks e) (length ks)))
  where
    no_more : (b : Bool) (n : ℕ) → n ≡ 0 → (if b then n else 0) ≡ 0
    no_more true n e = e
    no_more false n e = refl

    zero_more : (n : ℕ) → 0 + n ≡ n
    zero_more n = omega arith
