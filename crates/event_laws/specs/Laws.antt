-- What holds of each application whose labels form a tree, for any number of workers, and of each list that follows one.
use Rattle.std.specs.Prelude.{◌≡◌, ℕ, true, false, List, Option, Some, slice_get}
use Rattle.app_core.specs.declared.label.Label.{Label}
use Rattle.app_core.specs.declared.label.CellName.{CellName}
use Rattle.app_core.specs.declared.outline.Outline.{Outline}
use Rattle.app_core.specs.declared.outline.Outline.TheVariants as of
use Rattle.event_lists.specs.declared.event.TaskName.{TaskName}
use Rattle.event_lists.specs.declared.mark.Mark.{Mark}
use Rattle.event_lists.specs.Events.{part, IsSubmitted}
use Rattle.event_lists.specs.Bins.{is_put}
use Rattle.event_laws.specs.Follows.{TaskEffects, Doing, FollowsBy, IsRun, carried_out, bin_of}
use Rattle.event_laws.specs.Trees.{LabelsAreTree, BringsUp, IsOnce, IsPlaced, ErasesWait}
use Rattle.event_laws.specs.Apart.{spawned, Apart, HasOneBringer, EffectsApart, ErasesPut}

-- no two spawns have one unit label
abbrev pub SpawnsAreApart : ℕ → List Doing → (Label → List Outline → Type 0) → Type 0
SpawnsAreApart ranks program may =
    (parent : Label → Option Label) → LabelsAreTree program may parent
    → (workers : ℕ) (task_effects : TaskEffects) (log : List Mark) → IsRun ranks workers program may task_effects log → Apart (spawned log)

-- no two tasks have one unit label
abbrev pub TasksAreApart : ℕ → List Doing → (Label → List Outline → Type 0) → Type 0
TasksAreApart ranks program may =
    (parent : Label → Option Label) → LabelsAreTree program may parent
    → (workers : ℕ) (task_effects : TaskEffects) (log : List Mark) → IsRun ranks workers program may task_effects log
    → (r n q m : ℕ) (t u : TaskName) → IsSubmitted r n t log → IsSubmitted q m u log → t.unit ≡ u.unit → (r ≡ q) × (n ≡ m) × (t ≡ u)

-- no label is created by two bringers
abbrev pub BringersAreOne : ℕ → List Doing → (Label → List Outline → Type 0) → Type 0
BringersAreOne ranks program may =
    (parent raiser dues : Label → Option Label) → LabelsAreTree program may parent → BringsUp program may raiser dues
    → (workers : ℕ) (task_effects : TaskEffects) (log : List Mark) → IsRun ranks workers program may task_effects log → HasOneBringer log

-- for effects of one kind, puts or erases: among the effects of begun tasks no entry has two
abbrev pub EntriesAreApart : ℕ → List Doing → (Label → List Outline → Type 0) → Type 0
EntriesAreApart ranks program may =
    (parent : Label → Option Label) (f : CellName → Outline) → LabelsAreTree program may parent → IsOnce may parent f
    → (workers : ℕ) (task_effects : TaskEffects) (log : List Mark) → IsRun ranks workers program may task_effects log → EffectsApart f task_effects

-- an entry that a begun task erases was put before the task was taken
abbrev pub ErasesComeLater : ℕ → List Doing → (Label → List Outline → Type 0) → Type 0
ErasesComeLater ranks program may =
    (parent : Label → Option Label) (home : Label → ℕ) (needs : Label → List Label)
    → LabelsAreTree program may parent → IsPlaced program may home needs → ErasesWait may parent home needs
    → (workers : ℕ) (task_effects : TaskEffects) (log : List Mark) → IsRun ranks workers program may task_effects log → ErasesPut task_effects log

-- an entry that a begun task is yet to put isn't in its bin
abbrev pub PutsFindNothing : Type 0
PutsFindNothing =
    (program : List Doing) (task_effects : TaskEffects) (log : List Mark) → FollowsBy program task_effects log → EffectsApart (λ c. of.Put c) task_effects
    → (r n i : ℕ) (os : List Outline) (c : CellName) → task_effects r n ≡ Some os → slice_get os i ≡ Some (of.Put c)
    → carried_out r n i log ≡ false → is_put c (part (bin_of r c) log) ≡ false

-- and one that it is yet to erase is
abbrev pub ErasesFindAnEntry : Type 0
ErasesFindAnEntry =
    (program : List Doing) (task_effects : TaskEffects) (log : List Mark) → FollowsBy program task_effects log → EffectsApart (λ c. of.Erase c) task_effects
    → ErasesPut task_effects log → (r n i : ℕ) (os : List Outline) (c : CellName) → task_effects r n ≡ Some os
    → slice_get os i ≡ Some (of.Erase c) → carried_out r n i log ≡ false → is_put c (part (bin_of r c) log) ≡ true
