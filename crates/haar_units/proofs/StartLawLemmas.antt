-- The starts of a command keep the laws of an application on starts.
use Rattle.std.proofs.Common.{◌≡◌, ◌≢◌, ◌⊎◌, ℕ, zero, suc, ◌+◌, ◌≤◌, ◌<◌, Bool, true, false, ◌||◌, List, [], ◌∷◌, ◌++◌, length, refl, sym, ap, ◌∙◌, subst, inl, inr, ⊎_elim, arith}
use Rattle.std.specs.Prelude.{if◌then◌else◌, Option, Some, None, count_by, Contains}
use Rattle.std.specs.List.{AllByRecursion, list_any}
use Rattle.std.proofs.lemmas.Bool.{false_from_ne_true, or_left, or_right, or_from, cases_eq}
use Rattle.std.proofs.lemmas.List.Recursion.{is_count_by}
use Rattle.app_core.specs.declared.label.Label.{Label}
use Rattle.app_core.specs.declared.outline.Outline.{Outline}
use Rattle.app_core.specs.Outlines.{same_label, has_due, has_need, IsDueOnce, IsNeededOnce, IsNeededNever, NeedingRunsAt, Names}
use Rattle.event_lists.proofs.FutureLemmas.{same_label_true, same_label_refl}
use Rattle.event_laws.proofs.MemberLemmas.{none_in, contains_cons}
use Rattle.haar_units.specs.Jobs.{Operation, DistributedJob, operation_at}
use Rattle.haar_units.specs.Units.{key_future, count_future, count_futures}
use Rattle.haar_units.specs.Starts.{count_starts, starts, starts_if, starts_of_operation, spawn_down}
use Rattle.haar_units.specs.Jobs.Operation.{Size, Fence}
use Rattle.haar_units.specs.StepLaws.{KeepsStartLaws}
use Rattle.haar_units.proofs.StartLemmas.{sum_start}

abbrev counts : (Outline → Bool) → List Outline → ℕ
counts test [] = 0
counts test (x ∷ xs) = if test x then 1 + counts test xs else counts test xs

counts_are : (test : Outline → Bool) (xs : List Outline) → counts test xs ≡ count_by test xs
counts_are test xs = is_count_by (counts test) test refl (λ x xs. refl) xs

differ : (a b : Label) → (a ≡ b → ⊥) → same_label a b ≡ false
differ a b n = false_from_ne_true (same_label a b) (λ t. n (same_label_true a b t))

other_rank : (c r q : ℕ) → (r ≡ q → ⊥) → same_label (count_future c r) (count_future c q) ≡ false
other_rank c r q n = differ (count_future c r) (count_future c q) (λ e. n (ap (λ (l : Label). l.place) e))

no_result : (c r : ℕ) → same_label (key_future c 1) (count_future c r) ≡ false
no_result c r = differ (key_future c 1) (count_future c r) (λ e. let z : 0 ≡ 1 = ap (λ (l : Label). l.part) e in omega (arith, z))

no_count : (c r : ℕ) → same_label (count_future c r) (key_future c 1) ≡ false
no_count c r = differ (count_future c r) (key_future c 1) (λ e. let z : 1 ≡ 0 = ap (λ (l : Label). l.part) e in omega (arith, z))

-- the count future of one of these ranks
record OfRank (c first n : ℕ) (l : Label) : Type 0 where
  r : ℕ
  from : first ≤ r
  below : r < first + n
  is : count_future c r ≡ l

further : (c first n : ℕ) (l : Label) → OfRank c (suc first) n l → OfRank c first (suc n) l
further c first n l o = record { r = o.r; from = let a = o.from in omega (arith, a); below = let b = o.below in omega (arith, b); is = o.is }

of_counts : (c first n : ℕ) (l : Label) → Contains (count_futures c first n ++ []) l → OfRank c first n l
of_counts c first zero l h = absurd (none_in l h)
of_counts c first (suc n) l h = ⊎_elim
    (λ e. record { r = first; from = omega arith; below = omega arith; is = e })
    (λ k. further c first n l (of_counts c (suc first) n l k))
    (contains_cons (count_future c first) l (count_futures c (suc first) n ++ []) h)

of_starts : (c first n : ℕ) (s : Outline) (l : Label) → Names (count_starts c first n ++ s ∷ []) l → OfRank c first n l ⊎ Names (s ∷ []) l
of_starts c first zero s l h = inr h
of_starts c first (suc n) s l h = ⊎_elim
    (λ e. inl (record { r = first; from = omega arith; below = omega arith; is = e }))
    (λ k. ⊎_elim (λ o. inl (further c first n l o)) (λ k. inr k) (of_starts c (suc first) n s l k))
    (contains_cons (count_future c first) l _ h)

-- how many units have a due
due_out : (c first n r : ℕ) (s : Outline) → r < first → has_due (count_future c r) s ≡ false → counts (has_due (count_future c r)) (count_starts c first n ++ s ∷ []) ≡ 0
due_out c first zero r s lt e = λ i. if e i then 1 else 0
due_out c first (suc n) r s lt e = (λ i. if other_rank c r first (λ z. omega (arith, z, lt)) i then 1 + counts (has_due (count_future c r)) (count_starts c (suc first) n ++ s ∷ []) else counts (has_due (count_future c r)) (count_starts c (suc first) n ++ s ∷ []))
    ∙ due_out c (suc first) n r s (omega (arith, lt)) e

due_in : (c first n r : ℕ) (s : Outline) → first ≤ r → r < first + n → has_due (count_future c r) s ≡ false → counts (has_due (count_future c r)) (count_starts c first n ++ s ∷ []) ≡ 1
due_in c first zero r s le lt e = absurd (omega (arith, le, lt))
due_in c first (suc n) r s le lt e = go (λ a b. due_in c (suc first) n r s a b e) (cases_eq r first)
  where
    here : r ≡ first → same_label (count_future c r) (count_future c first) ≡ true
    here z = ap (λ (q : ℕ). same_label (count_future c r) (count_future c q)) (sym z) ∙ same_label_refl (count_future c r)

    go : (suc first ≤ r → r < suc first + n → counts (has_due (count_future c r)) (count_starts c (suc first) n ++ s ∷ []) ≡ 1) → (r ≡ first) ⊎ (r ≡ first → ⊥) → counts (has_due (count_future c r)) (count_starts c first (suc n) ++ s ∷ []) ≡ 1
    go rec = ⊎_elim
        (λ z. (λ i. if here z i then 1 + counts (has_due (count_future c r)) (count_starts c (suc first) n ++ s ∷ []) else counts (has_due (count_future c r)) (count_starts c (suc first) n ++ s ∷ []))
        ∙ (let out = due_out c (suc first) n r s (omega (arith, z)) e in omega (arith, out)))
        (λ no_more. (λ i. if other_rank c r first no_more i then 1 + counts (has_due (count_future c r)) (count_starts c (suc first) n ++ s ∷ []) else counts (has_due (count_future c r)) (count_starts c (suc first) n ++ s ∷ []))
        ∙ (let apart = no_more in rec (omega (arith, le, apart)) (omega (arith, lt))))

result_due : (c first n : ℕ) (s : Outline) (k : ℕ) → counts (has_due (key_future c 1)) (s ∷ []) ≡ k → counts (has_due (key_future c 1)) (count_starts c first n ++ s ∷ []) ≡ k
result_due c first zero s k e = e
result_due c first (suc n) s k e = (λ i. if no_result c first i then 1 + counts (has_due (key_future c 1)) (count_starts c (suc first) n ++ s ∷ []) else counts (has_due (key_future c 1)) (count_starts c (suc first) n ++ s ∷ []))
    ∙ result_due c (suc first) n s k e

-- count units need nothing
need_after : (l : Label) (c first n : ℕ) (s : Outline) → counts (has_need l) (count_starts c first n ++ s ∷ []) ≡ counts (has_need l) (s ∷ [])
need_after l c first zero s = refl
need_after l c first (suc n) s = need_after l c (suc first) n s

needed : (c first n r : ℕ) → first ≤ r → r < first + n → list_any (λ m. same_label (count_future c r) m) (count_futures c first n) ≡ true
needed c first zero r le lt = absurd (omega (arith, le, lt))
needed c first (suc n) r le lt = go (λ a b. needed c (suc first) n r a b) (cases_eq r first)
  where
    go : (suc first ≤ r → r < suc first + n → list_any (λ m. same_label (count_future c r) m) (count_futures c (suc first) n) ≡ true) → (r ≡ first) ⊎ (r ≡ first → ⊥)
        → (same_label (count_future c r) (count_future c first) || list_any (λ m. same_label (count_future c r) m) (count_futures c (suc first) n)) ≡ true
    go rec = ⊎_elim
        (λ z. or_left (same_label (count_future c r) (count_future c first)) (list_any (λ m. same_label (count_future c r) m) (count_futures c (suc first) n)) (ap (λ (q : ℕ). same_label (count_future c r) (count_future c q)) (sym z) ∙ same_label_refl (count_future c r)))
        (λ more. let apart = more in or_right (same_label (count_future c r) (count_future c first)) (list_any (λ m. same_label (count_future c r) m) (count_futures c (suc first) n)) (rec (omega (arith, le, apart)) (omega (arith, lt))))

unneeded : (c first n : ℕ) → list_any (λ m. same_label (key_future c 1) m) (count_futures c first n) ≡ false
unneeded c first zero = refl
unneeded c first (suc n) = or_from (same_label (key_future c 1) (count_future c first)) (list_any (λ m. same_label (key_future c 1) m) (count_futures c (suc first) n)) (no_result c first) (unneeded c (suc first) n)

all_at : (c first n : ℕ) (s : Outline) → NeedingRunsAt 0 s → AllByRecursion (NeedingRunsAt 0) (count_starts c first n ++ s ∷ [])
all_at c first zero s h = (h, tt)
all_at c first (suc n) s h = ((λ some. absurd (some refl)), all_at c (suc first) n s h)

long : (c first n : ℕ) (s : Outline) → length (count_starts c first n ++ s ∷ []) ≡ n + 1
long c first zero s = refl
long c first (suc n) s = let rest = long c (suc first) n s in omega (arith, rest)

-- these outlines keep the laws on starts
record Sound (job : DistributedJob) (c : ℕ) (os : List Outline) : Type 0 where
  names : (l : Label) → Names os l → l.command ≡ c
  due_once : (l : Label) → Names os l → IsDueOnce l os
  needed_once : (l : Label) → Names os l → key_future c 1 ≢ l → IsNeededOnce l os
  never : IsNeededNever (key_future c 1) os
  at_zero : AllByRecursion (NeedingRunsAt 0) os
  few : length os ≤ job.ranks + 1

nothing : (job : DistributedJob) (c : ℕ) → Sound job c []
nothing job c = record {
  names = λ l h. absurd (none_in l h);
  due_once = λ l h. absurd (none_in l h);
  needed_once = λ l h other. absurd (none_in l h);
  never = refl;
  at_zero = tt;
  few = omega arith;
}

a_root : (job : DistributedJob) (c : ℕ) → Sound job c (spawn_down job c 1 ∷ [])
a_root job c = record {
  names = λ l h. ⊎_elim (λ e. sym (ap (λ (l : Label). l.command) e)) (λ k. absurd (none_in l k)) (contains_cons (key_future c 1) l [] h);
  due_once = λ l h. ⊎_elim (λ e. subst (λ (l : Label). IsDueOnce l (spawn_down job c 1 ∷ [])) e (λ i. 0 + (if same_label_refl (key_future c 1) i then 1 else 0))) (λ k. absurd (none_in l k)) (contains_cons (key_future c 1) l [] h);
  needed_once = λ l h other. ⊎_elim (λ e. absurd (other e)) (λ k. absurd (none_in l k)) (contains_cons (key_future c 1) l [] h);
  never = refl;
  at_zero = ((λ some. absurd (some refl)), tt);
  few = omega arith;
}

abbrev all_starts : DistributedJob → ℕ → List Outline
all_starts job c = count_starts c 0 job.ranks ++ sum_start job c ∷ []

sizing : (job : DistributedJob) (c : ℕ) → Sound job c (count_starts c 0 job.ranks ++ sum_start job c ∷ [])
sizing job c = record {
  names = λ l h. by_name (λ l. l.command ≡ c) (λ r lt. refl) refl l h;
  due_once = by_name (λ l. IsDueOnce l (all_starts job c)) (λ r lt. sym (counts_are (has_due (count_future c r)) (all_starts job c)) ∙ due_in c 0 job.ranks r (sum_start job c) (omega arith) (omega (arith, lt)) (no_count c r))
      (sym (counts_are (has_due (key_future c 1)) (all_starts job c)) ∙ result_due c 0 job.ranks (sum_start job c) 1 (λ i. if same_label_refl (key_future c 1) i then 1 else 0));
  needed_once = λ l h other. by_name (λ l. key_future c 1 ≢ l → IsNeededOnce l (all_starts job c))
      (λ r lt own. sym (counts_are (has_need (count_future c r)) (all_starts job c)) ∙ need_after (count_future c r) c 0 job.ranks (sum_start job c) ∙ (λ i. if needed c 0 job.ranks r (omega arith) (omega (arith, lt)) i then 1 else 0))
      (λ own. absurd (own refl)) l h other;
  never = sym (counts_are (has_need (key_future c 1)) (all_starts job c)) ∙ need_after (key_future c 1) c 0 job.ranks (sum_start job c) ∙ (λ i. if unneeded c 0 job.ranks i then 1 else 0);
  at_zero = all_at c 0 job.ranks (sum_start job c) (λ some. refl);
  few = let n = long c 0 job.ranks (sum_start job c) in omega (arith, n);
}
  where
    by_name : (P : Label → Type 0) → ((r : ℕ) → r < job.ranks → P (count_future c r)) → P (key_future c 1) → (l : Label) → Names (count_starts c 0 job.ranks ++ sum_start job c ∷ []) l → P l
    by_name P rank result l h = ⊎_elim
        (λ o. of_rank o)
        (λ k. ⊎_elim
        (λ e. subst P e result)
        (λ k. of_rank (of_counts c 0 job.ranks l k))
        (contains_cons (key_future c 1) l _ k))
        (of_starts c 0 job.ranks (sum_start job c) l h)
      where
        of_rank : OfRank c 0 job.ranks l → P l
        of_rank o = subst P o.is (rank o.r (let b = o.below in omega (arith, b)))

pub begun : (job : DistributedJob) (c : ℕ) → KeepsStartLaws job c
begun job c = record { names = s.names; due_once = s.due_once; needed_once = s.needed_once; unneeded = s.never; at_zero = s.at_zero; few = s.few }
  where
    by_operation : (w : Operation) → Sound job c (starts_of_operation job c w)
    by_operation Size = sizing job c
    by_operation Fence = nothing job c
    by_operation w = a_root job c

    by_option : (o : Option Operation) → Sound job c (starts_if job c o)
    by_option None = nothing job c
    by_option (Some w) = by_operation w

    s : Sound job c (starts job c)
    s = by_option (operation_at job c)
