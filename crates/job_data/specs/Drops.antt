-- The versions that are dropped at each fence of a job: those that no command after it reads.
use Rattle.std.specs.Prelude.{◌≡◌, ℕ, ◌+◌, ◌-◌, ◌≤◌, Bool, true, false, not, ◌&&◌, ◌||◌, nat_le, ◌==◌, ⊤, List, [], ◌∷◌, length, filter, Some, IfSome}
use Rattle.std.specs.List.{list_all, list_any, range_with_len, slice_get}
use Rattle.std.specs.Option.{option_map_or}
use Rattle.tree_model.specs.Jobs.{JobData}
use Rattle.job_data.specs.declared.sources.Sources.{Sources}
use Rattle.job_data.specs.declared.sources.Sources.TheVariants.{Nothing, One, Two}
use Rattle.job_data.specs.declared.step.Step.{Step}
use Rattle.job_data.specs.Versions.{plan_of}

-- whether a command writes a version, and whether it reads it
abbrev pub writes_version : ℕ → Step → Bool
writes_version version s = option_map_or (λ v. v == version) s.writes false

abbrev pub has_version : ℕ → Sources → Bool
has_version version Nothing = false
has_version version (One v) = v == version
has_version version (Two v w) = (v == version) || (w == version)

abbrev pub reads_version : ℕ → Step → Bool
reads_version version s = has_version version s.reads

-- whether a command comes before a fence
abbrev pub is_before : ℕ → Step → Bool
is_before fence s = nat_le s.fence fence

-- whether a version was written before a fence, and no command after it reads it
abbrev pub is_done : List Step → ℕ → ℕ → Bool
is_done steps fence version =
    list_any (λ s. is_before fence s && writes_version version s) steps && list_all (λ s. is_before fence s || not (reads_version version s)) steps

-- the versions that are dropped at a fence, in order: those that are done there, and weren't at the fence before it
abbrev pub dropped_at : List Step → ℕ → List ℕ
dropped_at steps fence = filter (λ version. is_done steps fence version && not (is_done steps (fence - 1) version)) (range_with_len 1 (length steps))

-- what a step keeps that is the one of this number: it writes the version of its number, and ends at a fence that there is
pub record IsNumbered (number : ℕ) (s : Step) : Type 0 where
  pub version : IfSome s.writes (λ v. v ≡ number)
  pub from : 1 ≤ s.fence
  pub to : s.fence ≤ number

-- steps numbered from this number on
abbrev pub AreNumbered : ℕ → List Step → Type 0
AreNumbered number [] = ⊤
AreNumbered number (s ∷ ss) = IsNumbered number s × AreNumbered (number + 1) ss

-- a version that is done at a fence is dropped there, or at a fence before it
pub record IsDropped (steps : List Step) (fence version : ℕ) : Type 0 where
  pub at : ℕ
  pub within : at ≤ fence
  pub index : ℕ
  pub drops : slice_get (dropped_at steps at) index ≡ Some version

-- the versions that are dropped at a fence are done there; each is dropped once; and of a job's plan those that are done are
-- dropped
pub record VersionsAreDroppedOnce : Type 0 where
  pub done : (steps : List Step) (fence index version : ℕ) → slice_get (dropped_at steps fence) index ≡ Some version → is_done steps fence version ≡ true
  pub once :
      (steps : List Step) (fence index other place version : ℕ) →
      slice_get (dropped_at steps fence) index ≡ Some version →
      slice_get (dropped_at steps other) place ≡ Some version →
      (fence ≡ other) × (index ≡ place)
  pub all : (job : JobData) (fence version : ℕ) → is_done (plan_of job) fence version ≡ true → IsDropped (plan_of job) fence version
