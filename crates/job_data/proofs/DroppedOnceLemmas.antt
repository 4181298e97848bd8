-- Lemmas that crates above use: each version is dropped at one fence, and once; and the steps of a job are numbered.
use Rattle.std.proofs.Common.{◌≡◌, ℕ, zero, suc, ◌+◌, ◌-◌, ◌<◌, ◌≤◌, ◌≢◌, Bool, true, false, not, ◌&&◌, ◌||◌, cond, List, [], ◌∷◌, ◌++◌, length, filter, Option, Some, None, inl, inr, refl, sym, ◌∙◌, ap, subst, arith, length-append}
use Rattle.std.specs.Prelude.{IfSome}
use Rattle.std.specs.List.{list_all, list_any, range_with_len, slice_get}
use Rattle.std.specs.Option.{option_map}
use Rattle.std.proofs.lemmas.Bool.{cases_Bool, cases_eq, cases_lt, and_parts, and_from, or_cases, or_left, or_right, leb-true, le-leb, lt-leb, not-true, not_from_false, false≢true}
use Rattle.std.proofs.lemmas.List.Sums.{count_by-le-length}
use Rattle.tree_model.specs.Commands.{Command}
use Rattle.tree_model.specs.Jobs.{JobData}
use Rattle.tree_model.specs.Signatures.{signature_of}
use Rattle.job_data.specs.declared.step.Step.{Step}
use Rattle.job_data.specs.Checks.{is_fence}
use Rattle.job_data.specs.Drops.{writes_version, reads_version, is_before, is_done, dropped_at, AreNumbered, IsDropped}
use Rattle.job_data.specs.Versions.{plan_from, plan_of}
use Rattle.job_data.proofs.DropLemmas.{is_dropped, write_nothing}

-- what a number keeps that a filter of a range has
record Kept (p : ℕ → Bool) (from v : ℕ) : Type 0 where
  passes : p v ≡ true
  low : from ≤ v

lower : (p : ℕ → Bool) (from v : ℕ) → Kept p (from + 1) v → Kept p from v
lower p from v kept = record { passes = kept.passes; low = omega (arith, kept.low) }

kept_first :
    (p : ℕ → Bool) (from : ℕ) (rest : List ℕ) (b : Bool) (i v : ℕ) →
    p from ≡ b →
    ((j : ℕ) → slice_get rest j ≡ Some v → Kept p (from + 1) v) →
    slice_get (cond b (from ∷ rest) rest) i ≡ Some v →
    Kept p from v
kept_first p from rest true zero v passes later there = let same : from ≡ v = cc in record { passes = ap p (sym same) ∙ passes; low = omega (arith, same) }
kept_first p from rest true (suc i) v passes later there = lower p from v (later i there)
kept_first p from rest false i v passes later there = lower p from v (later i there)

kept_at : (p : ℕ → Bool) (from count i v : ℕ) → slice_get (filter p (range_with_len from count)) i ≡ Some v → Kept p from v
kept_at p from zero i v there = cc
kept_at p from (suc count) i v there = kept_first p from (filter p (range_with_len (from + 1) count)) (p from) i v refl (λ j. kept_at p (from + 1) count j v) there

once_first :
    (from : ℕ) (rest : List ℕ) (b : Bool) (i j v : ℕ) →
    ((k : ℕ) → slice_get rest k ≡ Some v → from + 1 ≤ v) →
    ((k l : ℕ) → slice_get rest k ≡ Some v → slice_get rest l ≡ Some v → k ≡ l) →
    slice_get (cond b (from ∷ rest) rest) i ≡ Some v →
    slice_get (cond b (from ∷ rest) rest) j ≡ Some v →
    i ≡ j
once_first from rest true zero zero v low once one other = refl
once_first from rest true zero (suc j) v low once one other = let same : from ≡ v = cc in absurd (omega (arith, same, low j other))
once_first from rest true (suc i) zero v low once one other = let same : from ≡ v = cc in absurd (omega (arith, same, low i one))
once_first from rest true (suc i) (suc j) v low once one other = ap suc (once i j one other)
once_first from rest false i j v low once one other = once i j one other

-- a number is there once
once_at : (p : ℕ → Bool) (from count i j v : ℕ) → slice_get (filter p (range_with_len from count)) i ≡ Some v → slice_get (filter p (range_with_len from count)) j ≡ Some v → i ≡ j
once_at p from zero i j v one other = cc
once_at p from (suc count) i j v one other =
    once_first from (filter p (range_with_len (from + 1) count)) (p from) i j v (λ k at. (kept_at p (from + 1) count k v at).low) (λ k l. once_at p (from + 1) count k l v) one other

-- where a number is in a list
record HasIndex (list : List ℕ) (v : ℕ) : Type 0 where
  index : ℕ
  there : slice_get list index ≡ Some v

index_first : (from : ℕ) (rest : List ℕ) (b : Bool) (v : ℕ) → (from ≡ v → b ≡ true) → (from ≢ v → HasIndex rest v) → HasIndex (cond b (from ∷ rest) rest) v
index_first from rest true v passes later = elim (cases_eq from v) [
  | inl here ↦ record { index = 0; there = ap Some here }
  | inr apart ↦ let rest_index = later apart in record { index = suc rest_index.index; there = rest_index.there }
]
index_first from rest false v passes later = elim (cases_eq from v) [
  | inl here ↦ absurd (false≢true (passes here))
  | inr apart ↦ later apart
]

-- a number of the range that passes the test is there
index_of : (p : ℕ → Bool) (from count v : ℕ) → from ≤ v → v < from + count → p v ≡ true → HasIndex (filter p (range_with_len from count)) v
index_of p from zero v low high passes = absurd (omega arith)
index_of p from (suc count) v low high passes =
    index_first from (filter p (range_with_len (from + 1) count)) (p from) v (λ here. ap p here ∙ passes) (λ apart. index_of p (from + 1) count v (omega arith) (omega arith) passes)

-- what is dropped at a fence is done there, and wasn't at the fence before
pub dropped_is_done : (steps : List Step) (fence index version : ℕ) → slice_get (dropped_at steps fence) index ≡ Some version → is_done steps fence version ≡ true
dropped_is_done steps fence index version there =
    let kept = kept_at (is_dropped steps fence) 1 (length steps) index version there in
    (and_parts (is_done steps fence version) (not (is_done steps (fence - 1) version)) kept.passes).0

not_before : (steps : List Step) (fence index version : ℕ) → slice_get (dropped_at steps fence) index ≡ Some version → is_done steps (fence - 1) version ≡ false
not_before steps fence index version there =
    let kept = kept_at (is_dropped steps fence) 1 (length steps) index version there in
    not-true (is_done steps (fence - 1) version) (and_parts (is_done steps fence version) (not (is_done steps (fence - 1) version)) kept.passes).1

any_implies : (p q : Step → Bool) (steps : List Step) → ((s : Step) → p s ≡ true → q s ≡ true) → list_any p steps ≡ true → list_any q steps ≡ true
any_implies p q [] implies any = any
any_implies p q (s ∷ ss) implies any = elim (or_cases (p s) (list_any p ss) any) [
  | inl here ↦ or_left (q s) (list_any q ss) (implies s here)
  | inr later ↦ or_right (q s) (list_any q ss) (any_implies p q ss implies later)
]

all_implies : (p q : Step → Bool) (steps : List Step) → ((s : Step) → p s ≡ true → q s ≡ true) → list_all p steps ≡ true → list_all q steps ≡ true
all_implies p q [] implies all = refl
all_implies p q (s ∷ ss) implies all =
    let parts = and_parts (p s) (list_all p ss) all in
    and_from (q s) (list_all q ss) (implies s parts.0) (all_implies p q ss implies parts.1)

sooner : (fence other : ℕ) (s : Step) → fence ≤ other → is_before fence s ≡ true → is_before other s ≡ true
sooner fence other s below is = let within = leb-true s.fence fence is in le-leb s.fence other (omega arith)

-- what is done at a fence is done at the later ones
done_later : (steps : List Step) (fence other version : ℕ) → fence ≤ other → is_done steps fence version ≡ true → is_done steps other version ≡ true
done_later steps fence other version below done =
    let parts = and_parts (list_any (λ s. is_before fence s && writes_version version s) steps) (list_all (λ s. is_before fence s || not (reads_version version s)) steps) done in
    and_from (list_any (λ s. is_before other s && writes_version version s) steps) (list_all (λ s. is_before other s || not (reads_version version s)) steps)
    (any_implies (λ s. is_before fence s && writes_version version s) (λ s. is_before other s && writes_version version s) steps
    (λ s is. let both = and_parts (is_before fence s) (writes_version version s) is in and_from (is_before other s) (writes_version version s) (sooner fence other s below both.0) both.1)
    parts.0)
    (all_implies (λ s. is_before fence s || not (reads_version version s)) (λ s. is_before other s || not (reads_version version s)) steps
    (λ s is. elim (or_cases (is_before fence s) (not (reads_version version s)) is) [
      | inl before ↦ or_left (is_before other s) (not (reads_version version s)) (sooner fence other s below before)
      | inr unread ↦ or_right (is_before other s) (not (reads_version version s)) unread
    ])
    parts.1)

no_later : (steps : List Step) (fence index other place version : ℕ) → slice_get (dropped_at steps fence) index ≡ Some version → slice_get (dropped_at steps other) place ≡ Some version → fence < other → ⊥
no_later steps fence index other place version one two below =
    false≢true (sym (not_before steps other place version two) ∙ done_later steps fence (other - 1) version (omega arith) (dropped_is_done steps fence index version one))

pub dropped_once :
    (steps : List Step) (fence index other place version : ℕ) →
    slice_get (dropped_at steps fence) index ≡ Some version →
    slice_get (dropped_at steps other) place ≡ Some version →
    (fence ≡ other) × (index ≡ place)
dropped_once steps fence index other place version one two =
    let same : fence ≡ other = elim (cases_lt fence other) [
      | inl below ↦ absurd (no_later steps fence index other place version one two below)
      | inr not_below ↦ elim (cases_lt other fence) [
        | inl above ↦ absurd (no_later steps other place fence index version two one above)
        | inr not_above ↦ omega arith
      ]
    ] in
    (same, once_at (is_dropped steps fence) 1 (length steps) index place version one (subst (λ e. slice_get (dropped_at steps e) place ≡ Some version) (sym same) two))

-- the first fence at which a version is done drops it
dropped_by : (steps : List Step) (fence version : ℕ) → 1 ≤ version → version ≤ length steps → is_done steps 0 version ≡ false → is_done steps fence version ≡ true → IsDropped steps fence version
dropped_by steps zero version low high never done = absurd (false≢true (sym never ∙ done))
dropped_by steps (suc fence) version low high never done = elim (cases_Bool (is_done steps fence version)) [
  | inl before ↦
      let at = dropped_by steps fence version low high never before in
      record { at = at.at; within = omega (arith, at.within); index = at.index; drops = at.drops }
  | inr first ↦
      let previous : suc fence - 1 ≡ fence = omega arith in
      let passes : is_dropped steps (suc fence) version ≡ true = and_from (is_done steps (suc fence) version) (not (is_done steps (suc fence - 1) version)) done (not_from_false (is_done steps (suc fence - 1) version) (ap (λ e. is_done steps e version) previous ∙ first)) in
      let place = index_of (is_dropped steps (suc fence)) 1 (length steps) version low (omega arith) passes in
      record { at = suc fence; within = omega arith; index = place.index; drops = place.there }
]

-- the steps of a plan are numbered
made : {A : Type 0} (o : Option A) (number : ℕ) → IfSome (option_map (λ a. number) o) (λ v. v ≡ number)
made None number = tt
made (Some a) number = refl

pub plan_numbered : (before cs : List Command) → AreNumbered (length before + 1) (plan_from before cs)
plan_numbered before [] = tt
plan_numbered before (c ∷ cs) =
    let next : length (before ++ c ∷ []) + 1 ≡ length before + 1 + 1 = (ap (λ n. n + 1) (length-append before (c ∷ []))) in
    let fences = count_by-le-length is_fence before in (
      record {
        version = made (signature_of c).writes (length before + 1);
        from = omega arith;
        to = omega (arith, fences);
      },
      subst (λ n. AreNumbered n (plan_from (before ++ c ∷ []) cs)) next (plan_numbered (before ++ c ∷ []) cs),
    )

none_before_all : (number version : ℕ) (steps : List Step) → AreNumbered number steps → list_any (λ s. is_before 0 s && writes_version version s) steps ≡ false
none_before_all number version [] are = refl
none_before_all number version (s ∷ ss) are =
    let late : is_before 0 s ≡ false = lt-leb s.fence 0 are.0.from in
    rw (late, none_before_all (number + 1) version ss are.1) refl

-- a version that is done is written by one of the steps
in_range : (steps : List Step) (fence version : ℕ) → AreNumbered 1 steps → is_done steps fence version ≡ true → (1 ≤ version) × (version ≤ length steps)
in_range steps fence version are done =
    let any = (and_parts (list_any (λ s. is_before fence s && writes_version version s) steps) (list_all (λ s. is_before fence s || not (reads_version version s)) steps) done).0 in
    let outside : ((k : ℕ) → 1 ≤ k → k < 1 + length steps → version ≢ k) → ⊥ = λ apart. false≢true (sym (write_nothing fence 1 version steps are apart).any ∙ any) in (
      elim (cases_lt version 1) [ inl low ↦ absurd (outside (λ k from to same. omega arith)) | inr some ↦ some ],
      elim (cases_lt (length steps) version) [ inl high ↦ absurd (outside (λ k from to same. omega arith)) | inr within ↦ within ],
    )

pub all_dropped : (job : JobData) (fence version : ℕ) → is_done (plan_of job) fence version ≡ true → IsDropped (plan_of job) fence version
all_dropped job fence version done =
    let steps = plan_of job in
    let are = plan_numbered [] job.commands in
    let range = in_range steps fence version are done in
    let readers = list_all (λ s. is_before 0 s || not (reads_version version s)) steps in
    dropped_by steps fence version range.0 range.1 (ap (λ b. b && readers) (none_before_all 1 version steps are)) done
