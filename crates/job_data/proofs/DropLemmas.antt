-- A version is dropped at the fence of its last use.
use Rattle.std.proofs.Common.{◌≡◌, ℕ, zero, suc, ◌+◌, ◌-◌, ◌<◌, ◌≤◌, max, ◌≢◌, Bool, true, false, not, ◌&&◌, ◌||◌, cond, eqb, List, [], ◌∷◌, ◌++◌, length, take, drop, get_or, set, filter, Option, Some, None, inl, inr, refl, sym, ◌∙◌, ap, subst, arith, append-nil, ne_eqb}
use Rattle.std.specs.Prelude.{IfSome, nat_le, if◌then◌else◌}
use Rattle.std.specs.List.{fold, list_all, list_any, range_with_len}
use Rattle.std.specs.Option.{option_map_or}
use Rattle.std.proofs.Math.Bool.{and-true}
use Rattle.std.proofs.lemmas.Bool.{cases_eq, and_parts, and_from, and_right, leb-true, leb-false, le-leb, lt-leb, eqb-true, eq-eqb, not-true, not_from_false}
use Rattle.std.proofs.lemmas.Grind.{get_or-set_at}
use Rattle.std.proofs.lemmas.List.{get_or_read, get_or-set_other, length-take-le}
use Rattle.std.proofs.lemmas.List.Elements.{filter-append}
use Rattle.std.proofs.lemmas.List.Folds.{list_all-append, list_any-append}
use Rattle.tree_model.proofs.ConstantBoxLemmas.{same_tests}
use Rattle.tree_model.proofs.RangeLemmas.{range_more}
use Rattle.job_data.specs.declared.step.Step.{Step}
use Rattle.job_data.specs.Drops.{writes_version, reads_version, is_before, is_done, IsNumbered, AreNumbered}
use Rattle.job_data.specs.Uses.{use_after, last_use}

-- whether a command writes or reads a version
abbrev uses : ℕ → Step → Bool
uses version s = writes_version version s || reads_version version s

most_within : (m f e : ℕ) → nat_le (max m f) e ≡ (nat_le m e && nat_le f e)
most_within m f e =
    same_tests (nat_le (max m f) e) (nat_le m e && nat_le f e)
    (λ is. let most = leb-true (max m f) e is in and_from (nat_le m e) (nat_le f e) (le-leb m e (omega arith)) (le-leb f e (omega arith)))
    (λ is. let both = and_parts (nat_le m e) (nat_le f e) is in
    let first = leb-true m e both.0 in
    let second = leb-true f e both.1 in
    le-leb (max m f) e (omega arith))

regroup : (a b rest : Bool) → ((a && b) && rest) ≡ (a && ((b || false) && rest))
regroup true true rest = refl
regroup true false rest = refl
regroup false b rest = refl

or_true : (a b rest : Bool) → (a && rest) ≡ (a && ((b || true) && rest))
or_true a true rest = refl
or_true a false rest = refl

used_next : (u : Bool) (m f e : ℕ) (rest : Bool) → (nat_le (if u then max m f else m) e && rest) ≡ (nat_le m e && ((nat_le f e || not u) && rest))
used_next true m f e rest = ap (λ b. b && rest) (most_within m f e) ∙ regroup (nat_le m e) (nat_le f e) rest
used_next false m f e rest = or_true (nat_le m e) (nat_le f e) rest

-- the last use comes before a fence where all uses do
uses_within : (version m e : ℕ) (steps : List Step) → nat_le (fold (use_after version) m steps) e ≡ (nat_le m e && list_all (λ s. is_before e s || not (uses version s)) steps)
uses_within version m e [] = sym (and-true (nat_le m e))
uses_within version m e (s ∷ ss) =
    uses_within version (use_after version m s) e ss
    ∙ used_next (uses version s) m s.fence e (list_all (λ s. is_before e s || not (uses version s)) ss)

each_use : (b w r a c : Bool) → ((b || not (w || r)) && (a && c)) ≡ (((b || not w) && a) && ((b || not r) && c))
each_use true w r a c = refl
each_use false true r a c = refl
each_use false false true a c = sym (and_right a false refl)
each_use false false false a c = refl

-- where all writers and all readers do
all_uses : (version e : ℕ) (steps : List Step) → list_all (λ s. is_before e s || not (uses version s)) steps ≡ (list_all (λ s. is_before e s || not (writes_version version s)) steps && list_all (λ s. is_before e s || not (reads_version version s)) steps)
all_uses version e [] = refl
all_uses version e (s ∷ ss) =
    ap (λ rest. (is_before e s || not (uses version s)) && rest) (all_uses version e ss)
    ∙ each_use (is_before e s) (writes_version version s) (reads_version version s) (list_all (λ s. is_before e s || not (writes_version version s)) ss) (list_all (λ s. is_before e s || not (reads_version version s)) ss)

other_version : (number version : ℕ) (o : Option ℕ) → IfSome o (λ v. v ≡ number) → version ≢ number → option_map_or (λ v. eqb v version) o false ≡ false
other_version number version None is apart = refl
other_version number version (Some v) is apart = ne_eqb v version (λ same. apart (sym same ∙ is))

-- none of some steps writes a version
pub record WriteNothing (e version : ℕ) (steps : List Step) : Type 0 where
  pub any : list_any (λ s. is_before e s && writes_version version s) steps ≡ false
  pub all : list_all (λ s. is_before e s || not (writes_version version s)) steps ≡ true

pub write_nothing : (e number version : ℕ) (steps : List Step) → AreNumbered number steps → ((k : ℕ) → number ≤ k → k < number + length steps → version ≢ k) → WriteNothing e version steps
write_nothing e number version [] are apart = record { any = refl; all = refl }
write_nothing e number version (s ∷ ss) are apart =
    let here = other_version number version s.writes are.0.version (apart number (omega arith) (omega arith)) in
    let rest = write_nothing e (number + 1) version ss are.1 (λ k low high. apart k (omega arith) (omega arith)) in
    record {
      any = rw (here, and_right (is_before e s) false refl, rest.any) refl;
      all = rw (here, rest.all) (or_true_right (is_before e s));
    }
  where
    or_true_right : (b : Bool) → ((b || true) && true) ≡ true
    or_true_right true = refl
    or_true_right false = refl

numbered_split : (number : ℕ) (xs ys : List Step) → AreNumbered number (xs ++ ys) → AreNumbered number xs × AreNumbered (number + length xs) ys
numbered_split number [] ys are =
    let same : number ≡ number + 0 = omega arith in
    (tt, subst (λ n. AreNumbered n ys) same are)
numbered_split number (x ∷ xs) ys are =
    let rest = numbered_split (number + 1) xs ys are.1 in
    let same : number + 1 + length xs ≡ number + suc (length xs) = omega arith in
    ((are.0, rest.0), subst (λ n. AreNumbered n ys) same rest.1)

-- a step with the steps before it and after it
record IsStepOf (xs : List Step) (s : Step) (ys : List Step) (version : ℕ) : Type 0 where
  number : version ≡ length xs + 1
  here : IsNumbered version s
  before : (e : ℕ) → WriteNothing e version xs
  after : (e : ℕ) → WriteNothing e version ys

step_of_all : (xs : List Step) (s : Step) (ys : List Step) → AreNumbered 1 (xs ++ s ∷ ys) → IsStepOf xs s ys (length xs + 1)
step_of_all xs s ys are =
    let parts = numbered_split 1 xs (s ∷ ys) are in
    let same : 1 + length xs ≡ length xs + 1 = omega arith in
    record {
      number = refl;
      here = subst (λ n. IsNumbered n s) same parts.1.0;
      before = λ e. write_nothing e 1 (length xs + 1) xs parts.0 (λ k low high is. omega arith);
      after = λ e. write_nothing e (1 + length xs + 1) (length xs + 1) ys parts.1.1 (λ k low high is. omega arith);
    }

written_here : (version : ℕ) (s : Step) → s.writes ≡ Some version → writes_version version s ≡ true
written_here version s is = ap (λ o. option_map_or (λ v. eqb v version) o false) is ∙ eq-eqb version version refl

not_written_here : (version : ℕ) (s : Step) → s.writes ≡ None → writes_version version s ≡ false
not_written_here version s is = ap (λ o. option_map_or (λ v. eqb v version) o false) is

abbrev before_and_writes : ℕ → ℕ → Step → Bool
before_and_writes e version s = is_before e s && writes_version version s

abbrev before_or_not_writes : ℕ → ℕ → Step → Bool
before_or_not_writes e version s = is_before e s || not (writes_version version s)

one_of : (b : Bool) → (false || ((b && true) || false)) ≡ b
one_of true = refl
one_of false = refl

none_of : (b : Bool) → (false || ((b && false) || false)) ≡ false
none_of true = refl
none_of false = refl

all_of : (b : Bool) → (true && ((b || false) && true)) ≡ b
all_of true = refl
all_of false = refl

-- the only writer of a version comes before a fence
any_writer : (e version : ℕ) (xs : List Step) (s : Step) (ys : List Step) → IsStepOf xs s ys version → writes_version version s ≡ true → list_any (before_and_writes e version) (xs ++ s ∷ ys) ≡ is_before e s
any_writer e version xs s ys is writes =
    let before = (is.before e).any in
    let after = (is.after e).any in
    list_any-append (before_and_writes e version) xs (s ∷ ys) ∙ rw (before, writes, after) (one_of (is_before e s))

no_writer : (e version : ℕ) (xs : List Step) (s : Step) (ys : List Step) → IsStepOf xs s ys version → writes_version version s ≡ false → list_any (before_and_writes e version) (xs ++ s ∷ ys) ≡ false
no_writer e version xs s ys is writes =
    let before = (is.before e).any in
    let after = (is.after e).any in
    list_any-append (before_and_writes e version) xs (s ∷ ys) ∙ rw (before, writes, after) (none_of (is_before e s))

all_writers : (e version : ℕ) (xs : List Step) (s : Step) (ys : List Step) → IsStepOf xs s ys version → writes_version version s ≡ true → list_all (before_or_not_writes e version) (xs ++ s ∷ ys) ≡ is_before e s
all_writers e version xs s ys is writes =
    let before = (is.before e).all in
    let after = (is.after e).all in
    list_all-append (before_or_not_writes e version) xs (s ∷ ys) ∙ rw (before, writes, after) (all_of (is_before e s))

-- a version is done at the fences from that of its last use on
done_by_last : (xs : List Step) (s : Step) (ys : List Step) (version e : ℕ) → IsStepOf xs s ys version → s.writes ≡ Some version → is_done (xs ++ s ∷ ys) e version ≡ nat_le (last_use (xs ++ s ∷ ys) version) e
done_by_last xs s ys version e is writes =
    let steps = xs ++ s ∷ ys in
    let here = written_here version s writes in
    let readers = list_all (λ t. is_before e t || not (reads_version version t)) steps in
    ap (λ b. b && readers) (any_writer e version xs s ys is here ∙ sym (all_writers e version xs s ys is here))
    ∙ sym (all_uses version e steps)
    ∙ ap (λ b. b && list_all (λ t. is_before e t || not (uses version t)) steps) (sym (le-leb 0 e (omega arith)))
    ∙ sym (uses_within version 0 e steps)

never_done : (xs : List Step) (s : Step) (ys : List Step) (version e : ℕ) → IsStepOf xs s ys version → s.writes ≡ None → is_done (xs ++ s ∷ ys) e version ≡ false
never_done xs s ys version e is writes =
    let readers = list_all (λ t. is_before e t || not (reads_version version t)) (xs ++ s ∷ ys) in
    ap (λ b. b && readers) (no_writer e version xs s ys is (not_written_here version s writes))

-- a version that is written has a last use, at a fence that there is
last_from : (xs : List Step) (s : Step) (ys : List Step) (version : ℕ) → IsStepOf xs s ys version → s.writes ≡ Some version → 1 ≤ last_use (xs ++ s ∷ ys) version
last_from xs s ys version is writes =
    let steps = xs ++ s ∷ ys in
    let readers = list_all (λ t. is_before 0 t || not (reads_version version t)) steps in
    let not_yet : is_before 0 s ≡ false = lt-leb s.fence 0 is.here.from in
    let none : nat_le (last_use steps version) 0 ≡ false = (sym (done_by_last xs s ys version 0 is writes) ∙ ap (λ b. b && readers) (any_writer 0 version xs s ys is (written_here version s writes) ∙ not_yet)) in
    leb-false (last_use steps version) 0 none

all_before : (e number version : ℕ) (steps : List Step) → AreNumbered number steps → number + length steps ≤ e + 1 → list_all (λ s. is_before e s || not (uses version s)) steps ≡ true
all_before e number version [] are within = refl
all_before e number version (s ∷ ss) are within =
    let here : is_before e s ≡ true = le-leb s.fence e (omega (arith, are.0.to)) in
    rw here (all_before e (number + 1) version ss are.1 (omega (arith, within)))

-- no use comes after the last fence
pub last_within : (steps : List Step) (version : ℕ) → AreNumbered 1 steps → last_use steps version ≤ length steps
last_within steps version are =
    let e = length steps in
    let all = all_before e 1 version steps are (omega arith) in
    leb-true (last_use steps version) e (uses_within version 0 e steps ∙ ap (λ b. nat_le 0 e && b) all ∙ and-true (nat_le 0 e) ∙ le-leb 0 e (omega arith))

-- whether a version is dropped at a fence
abbrev pub is_dropped : List Step → ℕ → ℕ → Bool
is_dropped steps e version = is_done steps e version && not (is_done steps (e - 1) version)

first_fence : (last e : ℕ) → 1 ≤ last → (nat_le last e && not (nat_le last (e - 1))) ≡ eqb last e
first_fence last e some =
    same_tests (nat_le last e && not (nat_le last (e - 1))) (eqb last e)
    (λ is. let both = and_parts (nat_le last e) (not (nat_le last (e - 1))) is in
    let within = leb-true last e both.0 in
    let beyond = leb-false last (e - 1) (not-true (nat_le last (e - 1)) both.1) in
    eq-eqb last e (omega arith))
    (λ is. let same = eqb-true last e is in
    and_from (nat_le last e) (not (nat_le last (e - 1))) (le-leb last e (omega arith)) (not_from_false (nat_le last (e - 1)) (lt-leb last (e - 1) (omega arith))))

pub dropped_at_last : (xs : List Step) (s : Step) (ys : List Step) (version e : ℕ) → AreNumbered 1 (xs ++ s ∷ ys) → s.writes ≡ Some version → is_dropped (xs ++ s ∷ ys) e version ≡ eqb (last_use (xs ++ s ∷ ys) version) e
dropped_at_last xs s ys version e are writes =
    let steps = xs ++ s ∷ ys in
    let own = step_of_all xs s ys are in
    let number : version ≡ length xs + 1 = some_number version (length xs + 1) s writes own.here in
    let is : IsStepOf xs s ys version = subst (λ v. IsStepOf xs s ys v) (sym number) own in
    rw (done_by_last xs s ys version e is writes, done_by_last xs s ys version (e - 1) is writes)
    (first_fence (last_use steps version) e (last_from xs s ys version is writes))
  where
    some_number : (version number : ℕ) (s : Step) → s.writes ≡ Some version → IsNumbered number s → version ≡ number
    some_number version number s writes is = subst (λ o. IfSome o (λ v. v ≡ number)) writes is.version

pub never_dropped : (xs : List Step) (s : Step) (ys : List Step) (e : ℕ) → AreNumbered 1 (xs ++ s ∷ ys) → s.writes ≡ None → is_dropped (xs ++ s ∷ ys) e (length xs + 1) ≡ false
never_dropped xs s ys e are writes =
    ap (λ b. b && not (is_done (xs ++ s ∷ ys) (e - 1) (length xs + 1))) (never_done xs s ys (length xs + 1) e (step_of_all xs s ys are) writes)

-- the versions up to one more
pub more_dropped : (p : ℕ → Bool) (at : ℕ) → filter p (range_with_len 1 (at + 1)) ≡ filter p (range_with_len 1 at) ++ cond (p (1 + at)) ((1 + at) ∷ []) []
more_dropped p at = ap (filter p) (range_more 1 at) ∙ filter-append p (range_with_len 1 at) ((1 + at) ∷ [])

cut_at : (steps : List Step) (at : ℕ) (d : Step) → at < length steps → steps ≡ take at steps ++ get_or steps at d ∷ drop (suc at) steps
cut_at [] at d below = absurd (omega arith)
cut_at (x ∷ xs) zero d below = refl
cut_at (x ∷ xs) (suc at) d below = ap (λ rest. x ∷ rest) (cut_at xs at d (omega arith))

-- the step at a place of numbered ones
record IsPlaced (steps : List Step) (at : ℕ) (s : Step) : Type 0 where
  cut : steps ≡ take at steps ++ s ∷ drop (suc at) steps
  number : length (take at steps) ≡ at
  numbered : AreNumbered 1 (take at steps ++ s ∷ drop (suc at) steps)

placed : (steps : List Step) (at : ℕ) (d : Step) → AreNumbered 1 steps → at < length steps → IsPlaced steps at (get_or steps at d)
placed steps at d are below =
    let cut = cut_at steps at d below in
    record { cut = cut; number = length-take-le at steps (omega arith); numbered = subst (AreNumbered 1) cut are }

-- it writes the version of its number
pub version_at_place : (steps : List Step) (at version : ℕ) (d : Step) → AreNumbered 1 steps → at < length steps → (get_or steps at d).writes ≡ Some version → version ≡ at + 1
version_at_place steps at version d are below writes =
    let s = get_or steps at d in
    let place = placed steps at d are below in
    let own = step_of_all (take at steps) s (drop (suc at) steps) place.numbered in
    subst (λ o. IfSome o (λ v. v ≡ length (take at steps) + 1)) writes own.here.version ∙ ap (λ n. n + 1) place.number

written_dropped : (steps : List Step) (at version e : ℕ) (d : Step) → AreNumbered 1 steps → at < length steps → (get_or steps at d).writes ≡ Some version → is_dropped steps e version ≡ eqb (last_use steps version) e
written_dropped steps at version e d are below writes =
    let s = get_or steps at d in
    let place = placed steps at d are below in
    subst (λ all. is_dropped all e version ≡ eqb (last_use all version) e) (sym place.cut) (dropped_at_last (take at steps) s (drop (suc at) steps) version e place.numbered writes)

unwritten_kept : (steps : List Step) (at e : ℕ) (d : Step) → AreNumbered 1 steps → at < length steps → (get_or steps at d).writes ≡ None → is_dropped steps e (at + 1) ≡ false
unwritten_kept steps at e d are below writes =
    let s = get_or steps at d in
    let place = placed steps at d are below in
    ap (λ n. is_dropped steps e (n + 1)) (sym place.number)
    ∙ subst (λ all. is_dropped all e (length (take at steps) + 1) ≡ false) (sym place.cut) (never_dropped (take at steps) s (drop (suc at) steps) e place.numbered writes)

-- the lists of the versions up to one more, where that isn't written
pub same_lists :
    (steps : List Step) (at : ℕ) (d : Step) (lists : List (List ℕ)) (e : ℕ) →
    AreNumbered 1 steps →
    at < length steps →
    (get_or steps at d).writes ≡ None →
    get_or lists e [] ≡ filter (is_dropped steps e) (range_with_len 1 at) →
    get_or lists e [] ≡ filter (is_dropped steps e) (range_with_len 1 (at + 1))
same_lists steps at d lists e are below writes so_far =
    let next : 1 + at ≡ at + 1 = omega arith in
    let none : is_dropped steps e (1 + at) ≡ false = (ap (is_dropped steps e) next ∙ unwritten_kept steps at e d are below writes) in
    so_far
    ∙ sym (append-nil (filter (is_dropped steps e) (range_with_len 1 at)))
    ∙ ap (λ b. filter (is_dropped steps e) (range_with_len 1 at) ++ cond b ((1 + at) ∷ []) []) (sym none)
    ∙ sym (more_dropped (is_dropped steps e) at)

-- and where it is added to the list of its last use
pub longer_list :
    (steps : List Step) (at version : ℕ) (d : Step) (lists : List (List ℕ)) (e : ℕ) →
    AreNumbered 1 steps →
    at < length steps →
    (get_or steps at d).writes ≡ Some version →
    last_use steps version < length lists →
    get_or lists e [] ≡ filter (is_dropped steps e) (range_with_len 1 at) →
    get_or (set lists (last_use steps version) (get_or lists (last_use steps version) [] ++ version ∷ [])) e [] ≡ filter (is_dropped steps e) (range_with_len 1 (at + 1))
longer_list steps at version d lists e are below writes room so_far =
    let last = last_use steps version in
    let number = version_at_place steps at version d are below writes in
    let next : 1 + at ≡ version = omega (arith, number) in
    let before = filter (is_dropped steps e) (range_with_len 1 at) in
    let test : is_dropped steps e (1 + at) ≡ eqb last e = (ap (is_dropped steps e) next ∙ written_dropped steps at version e d are below writes) in
    let more : filter (is_dropped steps e) (range_with_len 1 (at + 1)) ≡ before ++ cond (eqb last e) (version ∷ []) [] = (more_dropped (is_dropped steps e) at ∙ ap (λ b. before ++ cond b ((1 + at) ∷ []) []) test ∙ ap (λ v. before ++ cond (eqb last e) (v ∷ []) []) next) in
    elim (cases_eq last e) [
      | inl here ↦
          get_or-set_at lists last e (get_or lists last [] ++ version ∷ []) [] (sym here) room
          ∙ ap (λ n. get_or lists n [] ++ version ∷ []) here
          ∙ ap (λ vs. vs ++ version ∷ []) so_far
          ∙ ap (λ b. before ++ cond b (version ∷ []) []) (sym (eq-eqb last e here))
          ∙ sym more
      | inr apart ↦
          get_or-set_other lists last e (get_or lists last [] ++ version ∷ []) [] (λ same. apart (sym same))
          ∙ so_far
          ∙ sym (append-nil before)
          ∙ ap (λ b. before ++ cond b (version ∷ []) []) (sym (ne_eqb last e apart))
          ∙ sym more
    ]

-- the fence of a version's last use, as it was found in a list
pub found_last : (last : List ℕ) (steps : List Step) (version fence : ℕ) → fence ≡ get_or last version fence → version < length last → get_or last version 0 ≡ last_use steps version → fence ≡ last_use steps version
found_last last steps version fence is below known = get_or_read last version fence below is 0 ∙ known
