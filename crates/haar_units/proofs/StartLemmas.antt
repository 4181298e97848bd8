-- The starts of a command.
use Rattle.std.proofs.Common.{◌≡◌, ◌⊎◌, ℕ, zero, suc, ◌+◌, ◌<◌, true, [], ◌∷◌, ◌++◌, refl, ap, ◌∙◌, inl, inr, ⊎_elim, arith}
use Rattle.std.specs.Prelude.{Option, Some, None, slice_get}
use Rattle.app_core.specs.declared.outline.Outline.{Outline}
use Rattle.app_core.specs.declared.outline.Outline.TheVariants as of
use Rattle.haar_units.specs.Jobs.{Operation, DistributedJob, operation_at, is_on_trees}
use Rattle.haar_units.specs.Units.{key_future, count_future, count_unit, sum_unit, count_futures}
use Rattle.haar_units.specs.Starts.{spawn_down, count_starts, starts_of_operation, starts_if, starts}
use Rattle.haar_units.specs.Jobs.Operation.{Size, Fence}
use Rattle.haar_units.proofs.EffectLemmas.{some_is}

abbrev pub count_start : ℕ → ℕ → Outline
count_start c r = of.Spawn (count_unit c r) (Some (count_future c r)) [] r

abbrev pub sum_start : DistributedJob → ℕ → Outline
sum_start job c = of.Spawn (sum_unit c) (Some (key_future c 1)) (count_futures c 0 job.ranks) 0

-- a start spawns the down unit of the root, a count unit, or the sum unit
pub data IsStart (job : DistributedJob) (c i : ℕ) (o : Outline) : Type 0 where
  of_root : (w : Operation) → operation_at job c ≡ Some w → is_on_trees w ≡ true → i ≡ 0 → spawn_down job c 1 ≡ o → IsStart job c i o
  of_count : operation_at job c ≡ Some Size → i < job.ranks → count_start c i ≡ o → IsStart job c i o
  of_sum : operation_at job c ≡ Some Size → i ≡ job.ranks → sum_start job c ≡ o → IsStart job c i o

among : (c first n : ℕ) (s : Outline) (i : ℕ) (o : Outline) → slice_get (count_starts c first n ++ s ∷ []) i ≡ Some o → ((i < n) × (count_start c (first + i) ≡ o)) ⊎ ((i ≡ n) × (s ≡ o))
among c first zero s zero o e = inr (refl, some_is s o e)
among c first zero s (suc i) o e = absurd (cc)
among c first (suc n) s zero o e = inl (omega arith, ap (count_start c) (omega arith) ∙ some_is (count_start c first) o e)
among c first (suc n) s (suc i) o e = ⊎_elim
    (λ a. inl (omega (arith, a.0), ap (count_start c) (omega arith) ∙ a.1))
    (λ b. inr (omega (arith, b.0), b.1))
    (among c (suc first) n s i o e)

root_is : (job : DistributedJob) (c : ℕ) (w : Operation) → operation_at job c ≡ Some w → is_on_trees w ≡ true → (i : ℕ) (o : Outline) → slice_get (spawn_down job c 1 ∷ []) i ≡ Some o → IsStart job c i o
root_is job c w at tree zero o e = of_root w at tree refl (some_is (spawn_down job c 1) o e)
root_is job c w at tree (suc i) o e = absurd (cc)

of_operation : (job : DistributedJob) (c : ℕ) (w : Operation) → operation_at job c ≡ Some w → (i : ℕ) (o : Outline) → slice_get (starts_of_operation job c w) i ≡ Some o → IsStart job c i o
of_operation job c Size at i o e = ⊎_elim
    (λ a. of_count at a.0 (ap (count_start c) (omega arith) ∙ a.1))
    (λ b. of_sum at b.0 b.1)
    (among c 0 job.ranks (sum_start job c) i o e)
of_operation job c Fence at i o e = absurd (cc)
of_operation job c w at i o e = root_is job c w at refl i o e

pub start_is : (job : DistributedJob) (c i : ℕ) (o : Outline) → slice_get (starts job c) i ≡ Some o → IsStart job c i o
start_is job c i o e = go (operation_at job c) refl e
  where
    go : (w : Option Operation) → operation_at job c ≡ w → slice_get (starts_if job c w) i ≡ Some o → IsStart job c i o
    go None at e = absurd (cc)
    go (Some w) at e = of_operation job c w at i o e

-- and each of these is there
pub root_there : (job : DistributedJob) (c : ℕ) (w : Operation) → operation_at job c ≡ Some w → is_on_trees w ≡ true → slice_get (starts job c) 0 ≡ Some (spawn_down job c 1)
root_there job c w at tree = ap (λ (z : Option Operation). slice_get (starts_if job c z) 0) at ∙ go w tree
  where
    go : (w : Operation) → is_on_trees w ≡ true → slice_get (starts_of_operation job c w) 0 ≡ Some (spawn_down job c 1)
    go Size e = absurd (cc)
    go Fence e = absurd (cc)
    go w e = refl

count_among : (c first n : ℕ) (s : Outline) (i : ℕ) → i < n → slice_get (count_starts c first n ++ s ∷ []) i ≡ Some (count_start c (first + i))
count_among c first zero s i lt = absurd (omega (arith, lt))
count_among c first (suc n) s zero lt = ap (λ (r : ℕ). Some (count_start c r)) (omega arith)
count_among c first (suc n) s (suc i) lt = count_among c (suc first) n s i (omega (arith, lt)) ∙ ap (λ (r : ℕ). Some (count_start c r)) (omega arith)

sum_among : (c first n : ℕ) (s : Outline) → slice_get (count_starts c first n ++ s ∷ []) n ≡ Some s
sum_among c first zero s = refl
sum_among c first (suc n) s = sum_among c (suc first) n s

pub count_there : (job : DistributedJob) (c : ℕ) → operation_at job c ≡ Some Size → (r : ℕ) → r < job.ranks → slice_get (starts job c) r ≡ Some (count_start c r)
count_there job c at r lt = ap (λ (z : Option Operation). slice_get (starts_if job c z) r) at ∙ count_among c 0 job.ranks (sum_start job c) r lt ∙ ap (λ (r : ℕ). Some (count_start c r)) (omega arith)

pub sum_there : (job : DistributedJob) (c : ℕ) → operation_at job c ≡ Some Size → slice_get (starts job c) job.ranks ≡ Some (sum_start job c)
sum_there job c at = ap (λ (z : Option Operation). slice_get (starts_if job c z) job.ranks) at ∙ sum_among c 0 job.ranks (sum_start job c)
