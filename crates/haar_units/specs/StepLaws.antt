-- What the laws of an application ask of single steps and of starts.
use Rattle.std.specs.Prelude.{◌≡◌, ◌≢◌, ℕ, ◌+◌, ◌≤◌, List, length, Some, IfSome}
use Rattle.std.specs.List.{AllByRecursion}
use Rattle.app_core.specs.declared.label.Label.{Label}
use Rattle.app_core.specs.declared.label.CellName.{CellName}
use Rattle.app_core.specs.declared.outline.Outline.{Outline}
use Rattle.app_core.specs.Outlines.{IsDueOnce, IsNeededOnce, IsNeededNever, IsSeenToOnce, GivesOnly, NeedingRunsAt, Names, Touches}
use Rattle.haar_units.specs.Jobs.{DistributedJob}
use Rattle.haar_units.specs.Units.{due, home, entry, key_future}
use Rattle.haar_units.specs.Starts.{starts}
use Rattle.haar_units.specs.Actions.{Allowed}

-- of a unit's effects: the due is fulfilled or passed on once, no unit that is spawned needs it, and nothing else is given; each
-- other future that is named is the due of one unit that is spawned and is needed by one; units with needs have the spawner's
-- home; only the entry of the unit's own key is put or erased
pub record KeepsStepLaws (job : DistributedJob) (p : Label) (os : List Outline) : Type 0 where
  pub seen_to : IfSome (due p) (λ future. IsSeenToOnce future os)
  pub unneeded : IfSome (due p) (λ future. IsNeededNever future os)
  pub gives : AllByRecursion (GivesOnly (due p)) os
  pub due_once : (l : Label) → Names os l → due p ≢ Some l → IsDueOnce l os
  pub needed_once : (l : Label) → Names os l → due p ≢ Some l → IsNeededOnce l os
  pub stays : AllByRecursion (NeedingRunsAt (home job p)) os
  pub touches : (n : CellName) → Touches os n → entry p.command p.place ≡ n
  pub few : length os ≤ 4

-- what a label allows keeps these laws
abbrev pub StepsKeepTheLaws : Type 0
StepsKeepTheLaws = (job : DistributedJob) (p : Label) (os : List Outline) → Allowed job p os → KeepsStepLaws job p os

-- of a command's starts: each future that they name is the command's, is the due of one of them and is needed by one, but for the
-- result, which none needs; a start with needs runs on rank 0
pub record KeepsStartLaws (job : DistributedJob) (command : ℕ) : Type 0 where
  pub names : (l : Label) → Names (starts job command) l → l.command ≡ command
  pub due_once : (l : Label) → Names (starts job command) l → IsDueOnce l (starts job command)
  pub needed_once : (l : Label) → Names (starts job command) l → key_future command 1 ≢ l → IsNeededOnce l (starts job command)
  pub unneeded : IsNeededNever (key_future command 1) (starts job command)
  pub at_zero : AllByRecursion (NeedingRunsAt 0) (starts job command)
  pub few : length (starts job command) ≤ job.ranks + 1

abbrev pub StartsKeepTheLaws : Type 0
StartsKeepTheLaws = (job : DistributedJob) (command : ℕ) → KeepsStartLaws job command
