-- Versions are dropped once, after all commands that read them.
use Rattle.std.proofs.Common.{◌≡◌, ◌⊎◌, ℕ, zero, suc, ◌+◌, ◌-◌, ◌<◌, ◌≤◌, Bool, true, false, ◌&&◌, ◌||◌, not, List, [], ◌∷◌, length, filter, refl, sym, ap, ◌∙◌, subst, inl, inr, ⊎_elim, arith}
use Rattle.std.specs.Prelude.{cond, nat_le, nat_lt, Option, Some, None, slice_get, Contains}
use Rattle.std.specs.List.{list_any, range_with_len}
use Rattle.std.specs.Option.{option_map_or}
use Rattle.std.proofs.lemmas.Bool.{cases_lt, cases_eq, both_ways, lt-ltb, ltb-true, le-leb, leb-true, and_parts, and_from, or_left, or_right}
use Rattle.event_laws.specs.Held.{IsBefore, fences_before}
use Rattle.event_laws.proofs.MatchingListLemmas.{Has, Distinct}
use Rattle.haar_units.specs.Jobs.{Operation, DistributedJob, operation_at, kinds}
use Rattle.haar_units.specs.Bins.{writer_if, writer_of}
use Rattle.haar_units.specs.Drops.{Readers, is_read_after, is_used_up, dropped_of, DroppedIsWritten, DroppedStaysUnread, DropsComeOnce, UsedUpIsDropped}
use Rattle.haar_units.proofs.EffectLemmas.{some_is, none_is}
use Rattle.haar_units.proofs.UnitLemmas.{there_below}

-- lists of numbers

to_has : (xs : List ℕ) (x : ℕ) → Contains xs x → Has xs x
to_has [] x (k, lt, e) = absurd (omega (arith, lt))
to_has (y ∷ ys) x (zero, lt, e) = inl e
to_has (y ∷ ys) x (suc k, lt, e) = inr (to_has ys x (k, omega (arith, lt), e))

from_has : (xs : List ℕ) (x : ℕ) → Has xs x → Contains xs x
from_has [] x h = absurd h
from_has (y ∷ ys) x (inl e) = (0, omega arith, e)
from_has (y ∷ ys) x (inr h) = let c = from_has ys x h in (suc c.0, omega (arith, c.1), c.2)

range_has : (a n x : ℕ) → a ≤ x → x < a + n → Has (range_with_len a n) x
range_has a zero x le lt = absurd (omega (arith, le, lt))
range_has a (suc n) x le lt = ⊎_elim (λ e. inl e) (λ ne. let apart = ne in inr (range_has (a + 1) n x (omega (arith, le, apart)) (omega (arith, lt)))) (cases_eq a x)

range_of : (a n x : ℕ) → Has (range_with_len a n) x → a ≤ x
range_of a zero x h = absurd h
range_of a (suc n) x (inl e) = omega (arith, e)
range_of a (suc n) x (inr h) = let le = range_of (a + 1) n x h in omega (arith, le)

filter_of : (test : ℕ → Bool) (xs : List ℕ) (x : ℕ) → Has (filter test xs) x → (test x ≡ true) × Has xs x
filter_of test [] x h = absurd h
filter_of test (y ∷ ys) x h = go (filter_of test ys x) (test y) refl h
  where
    go : (Has (filter test ys) x → (test x ≡ true) × Has ys x) → (b : Bool) → test y ≡ b → Has (cond b (y ∷ filter test ys) (filter test ys)) x → (test x ≡ true) × ((y ≡ x) ⊎ Has ys x)
    go rec true t (inl e) = (ap test (sym e) ∙ t, inl e)
    go rec true t (inr h) = let r = rec h in (r.0, inr r.1)
    go rec false t h = let r = rec h in (r.0, inr r.1)

filter_has : (test : ℕ → Bool) (xs : List ℕ) (x : ℕ) → test x ≡ true → Has xs x → Has (filter test xs) x
filter_has test [] x t h = h
filter_has test (y ∷ ys) x t h = go (filter_has test ys x t) (test y) refl h
  where
    go : (Has ys x → Has (filter test ys) x) → (b : Bool) → test y ≡ b → (y ≡ x) ⊎ Has ys x → Has (cond b (y ∷ filter test ys) (filter test ys)) x
    go rec true s (inl e) = inl e
    go rec true s (inr h) = inr (rec h)
    go rec false s (inl e) = absurd (both_ways (test x) (ap test (sym e) ∙ s) t)
    go rec false s (inr h) = rec h

filter_distinct : (test : ℕ → Bool) (a n : ℕ) → Distinct (filter test (range_with_len a n))
filter_distinct test a zero = tt
filter_distinct test a (suc n) = go (filter_distinct test (a + 1) n) (test a)
  where
    go : Distinct (filter test (range_with_len (a + 1) n)) → (b : Bool) → Distinct (cond b (a ∷ filter test (range_with_len (a + 1) n)) (filter test (range_with_len (a + 1) n)))
    go rest true = ((λ h. let le = range_of (a + 1) n a (filter_of test (range_with_len (a + 1) n) a h).1 in omega (arith, le)), rest)
    go rest false = rest

at_has : (xs : List ℕ) (i v : ℕ) → slice_get xs i ≡ Some v → Has xs v
at_has [] i v e = absurd (cc)
at_has (x ∷ xs) zero v e = inl (some_is x v e)
at_has (x ∷ xs) (suc i) v e = inr (at_has xs i v e)

one_index : (xs : List ℕ) (i j v : ℕ) → Distinct xs → slice_get xs i ≡ Some v → slice_get xs j ≡ Some v → i ≡ j
one_index [] i j v d e f = absurd (cc)
one_index (x ∷ xs) zero zero v d e f = refl
one_index (x ∷ xs) zero (suc j) v d e f = absurd (d.0 (subst (Has xs) (sym (some_is x v e)) (at_has xs j v f)))
one_index (x ∷ xs) (suc i) zero v d e f = absurd (d.0 (subst (Has xs) (sym (some_is x v f)) (at_has xs i v e)))
one_index (x ∷ xs) (suc i) (suc j) v d e f = ap suc (one_index xs i j v d.1 e f)

any_has : (test : ℕ → Bool) (xs : List ℕ) (x : ℕ) → Has xs x → test x ≡ true → list_any test xs ≡ true
any_has test [] x h t = absurd h
any_has test (y ∷ ys) x (inl e) t = or_left (test y) (list_any test ys) (ap test e ∙ t)
any_has test (y ∷ ys) x (inr h) t = or_right (test y) (list_any test ys) (any_has test ys x h t)

any_more : (p q : ℕ → Bool) (xs : List ℕ) → ((x : ℕ) → p x ≡ true → q x ≡ true) → list_any p xs ≡ true → list_any q xs ≡ true
any_more p q [] h a = a
any_more p q (y ∷ ys) h a = go (any_more p q ys h) (p y) refl a
  where
    go : (list_any p ys ≡ true → list_any q ys ≡ true) → (b : Bool) → p y ≡ b → (b || list_any p ys) ≡ true → (q y || list_any q ys) ≡ true
    go rec true t a = or_left (q y) (list_any q ys) (h y t)
    go rec false t a = or_right (q y) (list_any q ys) (rec a)

not_true : (b : Bool) → not b ≡ true → b ≡ false
not_true true e = absurd (cc)
not_true false e = refl

true_not : (b : Bool) → b ≡ false → not b ≡ true
true_not b e = ap not e

module _ (job : DistributedJob) (reads : Readers) where
  abbrev stage : ℕ → ℕ
  stage c = fences_before c (kinds job)

  -- the command that writes a version that is used up
  record Used (fence version : ℕ) : Type 0 where
    command : ℕ
    writes_it : writer_of job version ≡ Some command
    early : stage command < fence
    unread : is_read_after job reads fence version ≡ false

  used : (fence version : ℕ) → is_used_up job reads fence version ≡ true → Used fence version
  used fence version e =
      let p = and_parts (option_map_or (λ c. nat_lt (stage c) fence) (writer_of job version) false) (not (is_read_after job reads fence version)) e in
      go (writer_of job version) refl p.0 (not_true (is_read_after job reads fence version) p.1)
    where
      go : (o : Option ℕ) → writer_of job version ≡ o → option_map_or (λ c. nat_lt (stage c) fence) o false ≡ true → is_read_after job reads fence version ≡ false → Used fence version
      go None at t unread = absurd (cc)
      go (Some c) at t unread = record { command = c; writes_it = at; early = ltb-true (stage c) fence t; unread = unread }

  used_from : (fence version : ℕ) → Used fence version → is_used_up job reads fence version ≡ true
  used_from fence version u = and_from (option_map_or (λ c. nat_lt (stage c) fence) (writer_of job version) false) (not (is_read_after job reads fence version))
      (ap (λ (o : Option ℕ). option_map_or (λ c. nat_lt (stage c) fence) o false) u.writes_it ∙ lt-ltb (stage u.command) fence u.early)
      (true_not (is_read_after job reads fence version) u.unread)

  -- what is used up at a fence is used up at each later one
  later : (fence more version : ℕ) → fence ≤ more → is_used_up job reads fence version ≡ true → is_used_up job reads more version ≡ true
  later fence more version le e =
      let u = used fence version e in
      let early = u.early in
      used_from more version (record { command = u.command; writes_it = u.writes_it; early = omega (arith, early, le); unread = go (is_read_after job reads more version) refl u.unread })
    where
      go : (b : Bool) → is_read_after job reads more version ≡ b → is_read_after job reads fence version ≡ false → b ≡ false
      go true t unread = absurd (both_ways (is_read_after job reads fence version) unread
          (any_more (λ c. nat_le more (stage c) && reads c version) (λ c. nat_le fence (stage c) && reads c version) (range_with_len 1 (length job.operations))
          (λ c h. let p = and_parts (nat_le more (stage c)) (reads c version) h in let much = leb-true more (stage c) p.0 in and_from (nat_le fence (stage c)) (reads c version) (le-leb fence (stage c) (omega (arith, much, le))) p.1)
          t))
      go false t unread = refl

  -- a version that is dropped
  record Dropped (fence version : ℕ) : Type 0 where
    here : is_used_up job reads fence version ≡ true
    before : is_used_up job reads (fence - 1) version ≡ false

  abbrev test : ℕ → ℕ → Bool
  test fence version = is_used_up job reads fence version && not (is_used_up job reads (fence - 1) version)

  dropped : (fence version : ℕ) → Has (dropped_of job reads fence) version → Dropped fence version
  dropped fence version h =
      let p = and_parts (is_used_up job reads fence version) (not (is_used_up job reads (fence - 1) version)) (filter_of (test fence) (range_with_len 1 (length job.operations)) version h).0 in
      record { here = p.0; before = not_true (is_used_up job reads (fence - 1) version) p.1 }

  -- numbers of commands
  numbered : (command : ℕ) (w : Operation) → operation_at job command ≡ Some w → Has (range_with_len 1 (length job.operations)) command
  numbered zero w at = none_is w at
  numbered (suc before) w at = let lt = there_below job.operations before w at in range_has 1 (length job.operations) (suc before) (omega arith) (omega (arith, lt))

  written_is : (version command : ℕ) → writer_of job version ≡ Some command → Has (range_with_len 1 (length job.operations)) version
  written_is version command e = go (operation_at job version) refl e
    where
      go : (o : Option Operation) → operation_at job version ≡ o → writer_if version o ≡ Some command → Has (range_with_len 1 (length job.operations)) version
      go None at e = none_is command e
      go (Some w) at e = numbered version w at

  written : (fence version : ℕ) → Contains (dropped_of job reads fence) version → (command : ℕ) × (writer_of job version ≡ Some command) × IsBefore (kinds job) command fence
  written fence version h = let u = used fence version (dropped fence version (to_has (dropped_of job reads fence) version h)).here in (u.command, u.writes_it, u.early)

  unread : (fence version command : ℕ) (w : Operation) → Contains (dropped_of job reads fence) version → operation_at job command ≡ Some w → reads command version ≡ true → stage command < fence
  unread fence version command w h at r = ⊎_elim (λ lt. lt) (λ le. absurd (both_ways (is_read_after job reads fence version) u.unread
      (any_has (λ c. nat_le fence (stage c) && reads c version) (range_with_len 1 (length job.operations)) command (numbered command w at) (and_from (nat_le fence (stage command)) (reads command version) (le-leb fence (stage command) le) r))))
      (cases_lt (stage command) fence)
    where
      u : Used fence version
      u = used fence version (dropped fence version (to_has (dropped_of job reads fence) version h)).here

  -- of two fences that drop a version, neither is before the other
  not_later : (fence other version : ℕ) → Dropped fence version → Dropped other version → other ≤ fence
  not_later fence other version d e = ⊎_elim
      (λ lt. absurd (both_ways (is_used_up job reads (other - 1) version) e.before (later fence (other - 1) version (omega (arith, lt)) d.here)))
      (λ le. le)
      (cases_lt fence other)

  one_fence : (fence other version : ℕ) → Dropped fence version → Dropped other version → fence ≡ other
  one_fence fence other version d e = let a = not_later fence other version d e in let b = not_later other fence version e d in omega (arith, a, b)

  once : (fence other index place version : ℕ) → slice_get (dropped_of job reads fence) index ≡ Some version → slice_get (dropped_of job reads other) place ≡ Some version → (fence ≡ other) × (index ≡ place)
  once fence other index place version e f =
      let d = dropped fence version (at_has (dropped_of job reads fence) index version e) in
      let g = dropped other version (at_has (dropped_of job reads other) place version f) in
      let same = one_fence fence other version d g in
      (same, one_index (dropped_of job reads fence) index place version (filter_distinct (test fence) 1 (length job.operations)) e (ap (λ (n : ℕ). slice_get (dropped_of job reads n) place) same ∙ f))

  all_dropped : (fence version : ℕ) → is_used_up job reads fence version ≡ true → (earlier : ℕ) × (earlier ≤ fence) × Contains (dropped_of job reads earlier) version
  all_dropped zero version e = let lt = (used zero version e).early in absurd (omega (arith, lt))
  all_dropped (suc fence) version e = go (is_used_up job reads fence version) refl (all_dropped fence version)
    where
      u : Used (suc fence) version
      u = used (suc fence) version e

      go : (b : Bool) → is_used_up job reads fence version ≡ b → (is_used_up job reads fence version ≡ true → (earlier : ℕ) × (earlier ≤ fence) × Contains (dropped_of job reads earlier) version)
          → (earlier : ℕ) × (earlier ≤ suc fence) × Contains (dropped_of job reads earlier) version
      go true t rec = let r = rec t in (r.0, omega (arith, r.1), r.2)
      go false t rec =
          let minus : fence ≡ suc fence - 1 = omega arith in (
            suc fence,
            omega arith,
            from_has (dropped_of job reads (suc fence)) version
                (filter_has (test (suc fence)) (range_with_len 1 (length job.operations)) version (and_from (is_used_up job reads (suc fence) version) (not (is_used_up job reads (suc fence - 1) version)) e
                (true_not (is_used_up job reads (suc fence - 1) version) (ap (λ (n : ℕ). is_used_up job reads n version) (sym minus) ∙ t)))
                (written_is version u.command u.writes_it)),
          )

pub dropped_is_written : DroppedIsWritten
dropped_is_written job reads fence version h = written job reads fence version h

pub dropped_stays_unread : DroppedStaysUnread
dropped_stays_unread job reads fence version command operation h at r = unread job reads fence version command operation h at r

pub drops_come_once : DropsComeOnce
drops_come_once job reads fence other index place version e f = once job reads fence other index place version e f

pub used_up_is_dropped : UsedUpIsDropped
used_up_is_dropped job reads fence version e = all_dropped job reads fence version e
