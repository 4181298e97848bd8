-- What holds of every run of commands on trees, whatever overflows: laws on lists of events, in the form in which an application
-- cites them.
use Rattle.std.specs.Prelude.{◌≡◌, ℕ, List, Some, slice_get}
use Rattle.app_core.specs.declared.label.Label.{Label}
use Rattle.app_core.specs.declared.label.CellName.{CellName}
use Rattle.app_core.specs.declared.outline.Outline.{Outline}
use Rattle.app_core.specs.declared.outline.Outline.TheVariants as of
use Rattle.app_core.specs.Commands.{IsWork}
use Rattle.app_core.specs.Outlines.{Touches}
use Rattle.event_lists.specs.declared.mark.Mark.{Mark}
use Rattle.event_laws.specs.Follows.{TaskEffects, IsRun}
use Rattle.event_laws.specs.Trees.{unit_of}
use Rattle.event_laws.specs.Apart.{spawned, Apart, HasOneBringer, EffectsApart, ErasesPut}
use Rattle.haar_units.specs.Jobs.{DistributedJob, kinds}
use Rattle.haar_units.specs.Starts.{program, starts}
use Rattle.haar_units.specs.Laws.{MayIsAllowed}
use Rattle.haar_units.specs.Bins.{writer_of}

pub record KeepsListLaws (job : DistributedJob) (may : Label → List Outline → Type 0) : Type 0 where
  pub spawns_apart : (task_effects : TaskEffects) (log : List Mark) (workers : ℕ) → IsRun job.ranks workers (program job) may task_effects log → Apart (spawned log)
  pub one_bringer : (task_effects : TaskEffects) (log : List Mark) (workers : ℕ) → IsRun job.ranks workers (program job) may task_effects log → HasOneBringer log
  pub puts_apart : (task_effects : TaskEffects) (log : List Mark) (workers : ℕ) → IsRun job.ranks workers (program job) may task_effects log → EffectsApart (λ c. of.Put c) task_effects
  pub erases_apart : (task_effects : TaskEffects) (log : List Mark) (workers : ℕ) → IsRun job.ranks workers (program job) may task_effects log → EffectsApart (λ c. of.Erase c) task_effects
  pub erases_put : (task_effects : TaskEffects) (log : List Mark) (workers : ℕ) → IsRun job.ranks workers (program job) may task_effects log → ErasesPut task_effects log
  pub starts_are_of_the_command : (command index : ℕ) (start : Outline) (unit : Label) → IsWork (kinds job) command → slice_get (starts job command) index ≡ Some start → unit_of start ≡ Some unit → unit.command ≡ command
  pub spawns_stay_in_their_command : (label : Label) (outlines : List Outline) (index : ℕ) (spawn : Outline) (unit : Label) → may label outlines → slice_get outlines index ≡ Some spawn → unit_of spawn ≡ Some unit → unit.command ≡ label.command
  pub writes_are_of_the_command : (label : Label) (outlines : List Outline) (entry : CellName) → may label outlines → Touches outlines entry → writer_of job entry.version ≡ Some label.command

abbrev pub RunsKeepTheLaws : (Label → List Outline → Type 0) → Type 0
RunsKeepTheLaws may = (job : DistributedJob) → MayIsAllowed job may → KeepsListLaws job may
