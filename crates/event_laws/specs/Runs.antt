-- A small application of one rank, a run that follows it, and lists that don't.
use Rattle.std.specs.Prelude.{◌≡◌, ◌⊎◌, ℕ, zero, true, List, [], ◌∷◌, Some, None}
use Rattle.app_core.specs.declared.label.Label.{Label}
use Rattle.app_core.specs.declared.label.CellName.{CellName}
use Rattle.app_core.specs.declared.outline.Outline.{Outline}
use Rattle.app_core.specs.declared.outline.Outline.TheVariants as of
use Rattle.app_core.specs.declared.outline.CommandKind.TheVariants.{Work}
use Rattle.event_lists.specs.declared.event.Event.{Event}
use Rattle.event_lists.specs.declared.event.Event.TheVariants.{TookTask, Submitted, Ran, Gave, Put}
use Rattle.event_lists.specs.declared.event.TaskName.{TaskName}
use Rattle.event_lists.specs.declared.mark.Mark.{Mark}
use Rattle.event_lists.specs.Events.{main_of}
use Rattle.event_lists.specs.TaskRuns.{label, main_does}
use Rattle.event_laws.specs.Follows.{TaskEffects, Doing, FollowsBy, program_from, effect_name}

abbrev pub entry : CellName
entry = record { version = 1; place = 2 }

-- the first unit spawns the second, puts an entry and gives its due; the second does nothing
abbrev pub first_unit : TaskName
first_unit = record { unit = label 1; needs = []; due = Some (label 9) }

abbrev pub second_unit : TaskName
second_unit = record { unit = label 2; needs = []; due = None }

abbrev pub effects : List Outline
effects = of.Spawn (label 2) None [] 0 ∷ of.Put entry ∷ of.Give (label 9) 0 ∷ []

abbrev pub may_do : Label → List Outline → Type 0
may_do l os = ((l ≡ label 1) × (os ≡ effects)) ⊎ ((l ≡ label 2) × (os ≡ []))

-- one command starts the first unit
abbrev pub program : List Doing
program = program_from 1 (Work ∷ []) (λ c. of.Spawn (label 1) (Some (label 9)) [] 0 ∷ [])

-- task 0 was begun
abbrev pub task_effects : TaskEffects
task_effects zero zero = Some effects
task_effects _ _ = None

-- an event of the main that carries out the effect at a place of task 0
abbrev pub acts : ℕ → Event → Mark
acts i e = record { lane = main_of 0; event = e; effect = Some (effect_name 0 0 i) }

-- the put of the entry on the lane of this bin
abbrev pub puts_in : ℕ → Mark
puts_in bin = record { lane = record { rank = 0; bin = true; number = bin }; event = Put entry; effect = Some (effect_name 0 0 1) }

abbrev pub begun : List Mark
begun = main_does 0 (TookTask 0 0) ∷ (main_does 0 (Submitted 0 first_unit) ∷ [])

abbrev pub has_put : List Mark
has_put = puts_in 2 ∷ (acts 0 (Submitted 1 second_unit) ∷ begun)

-- the first unit runs, and the second is left
abbrev pub whole_run : List Mark
whole_run = main_does 0 (Ran 0 0 0) ∷ (acts 2 (Gave (label 9)) ∷ has_put)

-- the unit is started twice
abbrev pub started_twice : List Mark
started_twice = main_does 0 (Submitted 1 first_unit) ∷ (main_does 0 (Submitted 0 first_unit) ∷ [])

-- the first effect is left out
abbrev pub effect_left_out : List Mark
effect_left_out = acts 2 (Gave (label 9)) ∷ (puts_in 2 ∷ begun)

-- the due is given before the entry is put
abbrev pub given_too_early : List Mark
given_too_early = acts 2 (Gave (label 9)) ∷ (acts 0 (Submitted 1 second_unit) ∷ begun)

-- the entry is put in another bin
abbrev pub put_elsewhere : List Mark
put_elsewhere = puts_in 3 ∷ (acts 0 (Submitted 1 second_unit) ∷ begun)

-- the task ends and didn't give its due
abbrev pub ran_too_early : List Mark
ran_too_early = main_does 0 (Ran 0 0 0) ∷ has_put

abbrev pub DoesNotFollow : List Mark → Type 0
DoesNotFollow log = FollowsBy program task_effects log → ⊥
