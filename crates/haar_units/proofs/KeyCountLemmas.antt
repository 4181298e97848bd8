-- Counting places below a power of two is counting keys down to a depth.
use Rattle.std.proofs.Common.{◌≡◌, ℕ, zero, suc, ◌+◌, ◌-◌, ◌*◌, ◌/◌, ◌%◌, ◌^◌, ◌≤◌, ◌<◌, Bool, true, false, ◌&&◌, not, List, ◌∷◌, ◌++◌, length, map, filter, refl, sym, ap, ◌∙◌, subst, ⊎_elim, arith}
use Rattle.std.specs.Prelude.{◌==◌, cond, if◌then◌else◌, Option, Some}
use Rattle.std.specs.List.{flat_map, range_with_len}
use Rattle.std.specs.Option.{option_map_or}
use Rattle.std.proofs.lemmas.Bool.{cases_lt, lt-ltb}
use Rattle.std.proofs.lemmas.List.{length-append}
use Rattle.std.proofs.lemmas.List.Elements.{filter-append}
use Rattle.std.proofs.lemmas.Nat.{pow-add}
use Rattle.std.proofs.Math.Pow.{pow_mono}
use Rattle.tree_key.specs.Keys.{Key, parent, place_of}
use Rattle.tree_key.proofs.FamilyLemmas.{parent_of_child}
use Rattle.tree_model.specs.Shapes.{keys_on, keys, key_count, is_interior}
use Rattle.tree_model.specs.Totals.{Distribution, Visits, is_cut, visits_total}
use Rattle.haar_units.specs.Jobs.{Operation, DistributedJob, is_on_trees}
use Rattle.haar_units.specs.Jobs.Operation.{Project, Size, Fence}
use Rattle.haar_units.specs.Traversals.{Traversal}
use Rattle.haar_units.specs.Totals.{sum_to, one_if, count_below, changes_owner, tasks_of, messages_of}
use Rattle.haar_units.specs.Places.{key_at, has_place}
use Rattle.haar_units.specs.Distributions.{IsDistributed, IsOverKeys, TotalsAreOfKeys, SizesAreOfRanks}
use Rattle.haar_units.proofs.PlaceLemmas.{child_at, left_at, keys_have_places}
use Rattle.haar_units.proofs.SumLemmas.{sum_ext, sum_front}

sum_append : (f : ℕ → ℕ) (a m : ℕ) → sum_to f (a + m) ≡ sum_to f a + sum_to (λ i. f (a + i)) m
sum_append f a zero = let same : a + 0 ≡ a = omega arith in let e : sum_to f (a + 0) ≡ sum_to f a = ap (sum_to f) same in omega (arith, e)
sum_append f a (suc m) =
    let next : a + suc m ≡ suc (a + m) = omega arith in
    let rest = sum_append f a m in
    let e : sum_to f (a + suc m) ≡ f (a + m) + sum_to f (a + m) = ap (sum_to f) next in
    omega (arith, e, rest)

length_of : {X : Type 0} (b : Bool) (x : X) (xs : List X) → length (cond b (x ∷ xs) xs) ≡ one_if b + length xs
length_of true x xs = omega arith
length_of false x xs = omega arith

-- how many values of a function at neighbouring numbers pass a test
filter_count : {X : Type 0} (test : X → Bool) (f : ℕ → X) (a n : ℕ) → length (filter test (map f (range_with_len a n))) ≡ sum_to (λ i. one_if (test (f (a + i)))) n
filter_count test f a zero = refl
filter_count test f a (suc n) =
    let rest = filter_count test f (a + 1) n in
    let here = length_of (test (f a)) (f a) (filter test (map f (range_with_len (a + 1) n))) in
    let front = sum_front (λ i. one_if (test (f (a + i)))) n in
    let zero_is : a + 0 ≡ a = omega arith in
    let first : one_if (test (f (a + 0))) ≡ one_if (test (f a)) = ap (λ (m : ℕ). one_if (test (f m))) zero_is in
    let others : sum_to (λ i. one_if (test (f (a + suc i)))) n ≡ sum_to (λ i. one_if (test (f (a + 1 + i)))) n = sum_ext (λ i. one_if (test (f (a + suc i)))) (λ i. one_if (test (f (a + 1 + i)))) n (λ i lt. let next : a + suc i ≡ a + 1 + i = omega arith in ap (λ (m : ℕ). one_if (test (f m))) next) in
    omega (arith, rest, here, front, first, others)

some_place : (k : Key) → 1 ≤ place_of k
some_place k = let some : 1 ≤ 2 ^ k.level = pow_mono {i = 0} {j = k.level} (omega arith) in omega (arith, some)

-- a test of keys, at the place of a key
pub at_place : (test : Key → Bool) (k : Key) → k.at < 2 ^ k.level → has_place test (place_of k) ≡ test k
at_place test k fits =
    let least = some_place k in
    (λ i. lt-ltb 0 (place_of k) (omega (arith, least)) i && test (keys_have_places k fits i))

module _ (test : Key → Bool) where
  abbrev g : ℕ → ℕ
  g place = one_if (has_place test place)

  of_level : (level : ℕ) → sum_to g (2 ^ level + 2 ^ level) ≡ sum_to g (2 ^ level) + length (filter test (keys_on level))
  of_level level =
      let split = sum_append g (2 ^ level) (2 ^ level) in
      let count = filter_count test (λ at. record { level = level; at = at }) 0 (2 ^ level) in
      let same : sum_to (λ i. g (2 ^ level + i)) (2 ^ level) ≡ sum_to (λ i. one_if (test (record { level = level; at = 0 + i }))) (2 ^ level) = sum_ext (λ i. g (2 ^ level + i)) (λ i. one_if (test (record { level = level; at = 0 + i }))) (2 ^ level)
      (λ i lt. ap one_if (at_place test (record { level = level; at = i }) lt) ∙ (let z : i ≡ 0 + i = omega arith in ap (λ (n : ℕ). one_if (test (record { level = level; at = n }))) z)) in
      omega (arith, split, count, same)

  of_levels : (a n : ℕ) → sum_to g (2 ^ (a + n)) ≡ sum_to g (2 ^ a) + length (filter test (flat_map keys_on (range_with_len a n)))
  of_levels a zero = let same : a + 0 ≡ a = omega arith in let e : sum_to g (2 ^ (a + 0)) ≡ sum_to g (2 ^ a) = ap (λ (n : ℕ). sum_to g (2 ^ n)) same in omega (arith, e)
  of_levels a (suc n) =
      let next : a + suc n ≡ a + 1 + n = omega arith in
      let top : sum_to g (2 ^ (a + suc n)) ≡ sum_to g (2 ^ (a + 1 + n)) = ap (λ (m : ℕ). sum_to g (2 ^ m)) next in
      let rest = of_levels (a + 1) n in
      let power : 2 ^ (a + 1) ≡ 2 ^ a + 2 ^ a = (let p : 2 ^ (a + 1) ≡ 2 ^ a * 2 = pow-add 2 a 1 in omega (arith, p)) in
      let bottom : sum_to g (2 ^ (a + 1)) ≡ sum_to g (2 ^ a + 2 ^ a) = ap (sum_to g) power in
      let level = of_level a in
      let joined : length (filter test (keys_on a ++ flat_map keys_on (range_with_len (a + 1) n))) ≡ length (filter test (keys_on a)) + length (filter test (flat_map keys_on (range_with_len (a + 1) n))) =
      ap length (filter-append test (keys_on a) (flat_map keys_on (range_with_len (a + 1) n))) ∙ length-append (filter test (keys_on a)) (filter test (flat_map keys_on (range_with_len (a + 1) n))) in
      omega (arith, top, rest, bottom, level, joined)

  pub count_is : (depth : ℕ) → count_below (has_place test) (2 ^ (depth + 1)) ≡ key_count depth test
  count_is depth =
      let all = of_levels 0 (depth + 1) in
      let same : 0 + (depth + 1) ≡ depth + 1 = omega arith in
      let e : sum_to g (2 ^ (0 + (depth + 1))) ≡ sum_to g (2 ^ (depth + 1)) = ap (λ (n : ℕ). sum_to g (2 ^ n)) same in
      omega (arith, all, e)

-- what is counted of keys, at their places

pub off_root : (test : Key → Bool) (x : ℕ) → 1 ≤ x → has_place test x ≡ test (key_at x)
off_root test x least = λ i. lt-ltb 0 x (omega (arith, least)) i && test (key_at x)

interior_at : (shape : Key → Bool) (x : ℕ) → (has_place shape x && has_place shape (2 * x)) ≡ has_place (is_interior shape) x
interior_at shape zero = refl
interior_at shape (suc x) =
    let least : 1 ≤ suc x = omega arith in
    (λ i. off_root shape (suc x) least i && (off_root shape (2 * suc x) (omega arith) ∙ ap shape (left_at (suc x) least)) i) ∙ sym (off_root (is_interior shape) (suc x) least)

parent_at : (x : ℕ) → 1 < x → parent (key_at x) ≡ Some (key_at (x / 2))
parent_at x more = ap parent (child_at (x / 2) x (x % 2 == 1) (omega (arith, more)) refl refl) ∙ parent_of_child (key_at (x / 2)) (x % 2 == 1)

module _ (d : Distribution) (job : DistributedJob) (is : IsDistributed d job) where
  pub owned : (x : ℕ) → 1 ≤ x → job.owner x ≡ d.owner (key_at x)
  owned x least = is.owner x ∙ (λ i. if lt-ltb 0 x (omega (arith, least)) i then d.owner (key_at x) else 0)

  cut_at : (x : ℕ) → 1 ≤ x → changes_owner job x ≡ is_cut d.owner (key_at x)
  cut_at x least = ⊎_elim
      (λ more. (λ i. lt-ltb 1 x more i && not (owned x least i == owned (x / 2) (omega (arith, more)) i))
      ∙ sym (ap (λ (o : Option Key). option_map_or (λ p. not (d.owner (key_at x) == d.owner p)) o false) (parent_at x more)))
      (λ few. let one : 1 ≡ x = omega (arith, few, least) in subst (λ (n : ℕ). changes_owner job n ≡ is_cut d.owner (key_at n)) one refl)
      (cases_lt 1 x)

  cut_keys : (test : Key → Bool) (x : ℕ) → (has_place test x && changes_owner job x) ≡ has_place (λ k. test k && is_cut d.owner k) x
  cut_keys test zero = refl
  cut_keys test (suc x) =
      let least : 1 ≤ suc x = omega arith in
      (λ i. off_root test (suc x) least i && cut_at (suc x) least i) ∙ sym (off_root (λ k. test k && is_cut d.owner k) (suc x) least)

  -- counting by a test of places that is a test of keys
  count_as : (test : ℕ → Bool) (keys : Key → Bool) (depth : ℕ) → ((x : ℕ) → test x ≡ has_place keys x) → count_below test (2 ^ (depth + 1)) ≡ key_count depth keys
  count_as test keys depth same = sum_ext (λ x. one_if (test x)) (λ x. one_if (has_place keys x)) (2 ^ (depth + 1)) (λ x lt. ap one_if (same x)) ∙ count_is keys depth

  module _ (traversal : Traversal) (depth command : ℕ) (keys : Visits) (over : IsOverKeys traversal command keys) where
    of_tree : (tasks_of job traversal (2 ^ (depth + 1)) command Project ≡ (visits_total d depth keys).tasks) × (messages_of job traversal (2 ^ (depth + 1)) command Project ≡ (visits_total d depth keys).messages)
    of_tree =
        let a = count_as (traversal.visits command) keys.visited depth over.visits in
        let b = count_as (λ x. traversal.visits command x && traversal.visits command (2 * x)) (is_interior keys.visited) depth (λ x. (λ i. over.visits x i && over.visits (2 * x) i) ∙ interior_at keys.visited x) in
        let c = count_as (traversal.erases command) keys.erased depth over.erases in
        let e = count_as (λ x. traversal.visits command x && changes_owner job x) (λ k. keys.visited k && is_cut d.owner k) depth (λ x. (λ i. over.visits x i && changes_owner job x) ∙ cut_keys keys.visited x) in
        let f = count_as (λ x. traversal.erases command x && changes_owner job x) (λ k. keys.erased k && is_cut d.owner k) depth (λ x. (λ i. over.erases x i && changes_owner job x) ∙ cut_keys keys.erased x) in
        ((λ i. a i + b i + c i), (λ i. 2 * e i + f i))

pub totals_of_keys : TotalsAreOfKeys
totals_of_keys d job traversal depth command operation keys is tree over = go operation tree
  where
    go : (w : Operation) → is_on_trees w ≡ true → (tasks_of job traversal (2 ^ (depth + 1)) command w ≡ (visits_total d depth keys).tasks) × (messages_of job traversal (2 ^ (depth + 1)) command w ≡ (visits_total d depth keys).messages)
    go Size t = absurd (cc)
    go Fence t = absurd (cc)
    go w t = of_tree d job is traversal depth command keys over

pub sizes_of_ranks : SizesAreOfRanks
sizes_of_ranks d job traversal bound command is = ((λ i. is.ranks i + 1), (λ i. 2 * (is.ranks i - 1)))
