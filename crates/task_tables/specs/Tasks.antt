-- Tasks of a rank, and the table of those that wait.
use Rattle.std.specs.Prelude.{◌≡◌, ◌↔◌, ◌==◌, ℕ, refl, cond, List, Option, None, Some, IsSome, slice_set}
use Rattle.std.specs.Coded.{Coded, code_by, coded×, coded_ℕ, coded_list, coded_option}
use Rattle.std.specs.Map.{lookup}
use Rattle.app_core.specs.declared.label.Label.{Label}
use Rattle.app_core.specs.declared.label.CellName.{CellName}
use Rattle.event_lists.specs.declared.future.Bringer.{Bringer}
use Rattle.depend.specs.Slots.{IsReady}
use Rattle.task_tables.specs.declared.task_table.Filling.{Filling}
use Rattle.task_tables.specs.declared.task_table.Filling.TheVariants.{Refused, Waits, Last}
use Rattle.task_tables.specs.Places.{AreRightPlaces}

-- what contracts see of a task: its unit, its number at its rank, who created its due, the futures that it needs, and
-- its places, for a value of each future and for a cell of each entry that it reads
pub record TaskData (U V C : Type 0) : Type 0 where
  pub unit : U
  pub number : ℕ
  pub due : Option Bringer
  pub needs : List Label
  pub values : List (Option V)
  pub cells : List (Option C)

module _ {U V C : Type 0} where
  abbrev pub task_code : Coded U → Coded Bringer → Coded Label → Coded V → Coded C → Coded (TaskData U V C)
  task_code u b l v c =
      code_by (U × (ℕ × (Option Bringer × (List Label × (List (Option V) × List (Option C))))))
      (coded× u (coded× coded_ℕ (coded× (coded_option b) (coded× (coded_list l) (coded× (coded_list (coded_option v)) (coded_list (coded_option c)))))))
      (λ t. (t.unit, (t.number, (t.due, (t.needs, (t.values, t.cells))))))
      (λ p. record { unit = p.0; number = p.1.0; due = p.1.1.0; needs = p.1.1.1.0; values = p.1.1.1.1.0; cells = p.1.1.1.1.1 }) (λ _. refl)

  -- each place is filled
  pub record IsReadyTask (task : TaskData U V C) : Type 0 where
    pub values : IsReady task.values
    pub cells : IsReady task.cells

  -- the task with a value in a place, and with a cell in one
  abbrev pub with_value : TaskData U V C → ℕ → V → TaskData U V C
  with_value task index value = record { unit = task.unit; number = task.number; due = task.due; needs = task.needs; values = slice_set task.values index (Some value); cells = task.cells }

  abbrev pub with_cell : TaskData U V C → ℕ → C → TaskData U V C
  with_cell task index cell = record { unit = task.unit; number = task.number; due = task.due; needs = task.needs; values = task.values; cells = slice_set task.cells index (Some cell) }

  -- the unit is one of the application, the places are those of its needs and reads, and what fills them is right
  pub record IsTaskOf (is_unit : U → Type 0) (due_of : U → Option Label) (needs_of : U → List Label) (reads_of : U → List CellName) (right_value : Label → V → Type 0)
      (right_cell : CellName → C → Type 0) (task : TaskData U V C) : Type 0 where
    pub unit : is_unit task.unit
    pub due : IsSome task.due ↔ IsSome (due_of task.unit)
    pub needs : needs_of task.unit ≡ task.needs
    pub values : AreRightPlaces right_value task.needs task.values
    pub cells : AreRightPlaces right_cell (reads_of task.unit) task.cells

  -- the waiting task of a number, if there is one
  abbrev pub task_of : List (ℕ × TaskData U V C) → ℕ → Option (TaskData U V C)
  task_of tasks number = lookup (λ n. number == n) tasks

  -- the second table has this task under the number, and under all others what the first has
  abbrev pub HasInPlace : List (ℕ × TaskData U V C) → List (ℕ × TaskData U V C) → ℕ → Option (TaskData U V C) → Type 0
  HasInPlace old new number task = (other : ℕ) → task_of new other ≡ cond (number == other) task (task_of old other)

  -- the second table has under each number what the first has
  abbrev pub HasTheSame : List (ℕ × TaskData U V C) → List (ℕ × TaskData U V C) → Type 0
  HasTheSame old new = (other : ℕ) → task_of new other ≡ task_of old other

  -- what filling a place of a waiting task came to, where it fits if the place is empty and one for it, and makes this of
  -- the task: a refusal leaves all; the task comes out at its last empty place, and waits on before
  pub record FillsPlace (old new : List (ℕ × TaskData U V C)) (number : ℕ) (fits : Type 0) (filled : TaskData U V C) (result : Option (TaskData U V C)) : Type 0 where
    pub refused : (fits → ⊥) → (result ≡ None) × HasTheSame old new
    pub waits : fits → (IsReadyTask filled → ⊥) → (result ≡ None) × HasInPlace old new number (Some filled)
    pub last : fits → IsReadyTask filled → (result ≡ Some filled) × HasInPlace old new number None

  -- the same, before the task is taken out
  abbrev pub IsFilling : List (ℕ × TaskData U V C) → List (ℕ × TaskData U V C) → ℕ → Type 0 → TaskData U V C → TaskData U V C → Filling → Type 0
  IsFilling old new number fits before filled Refused = (fits → ⊥) × HasInPlace old new number (Some before)
  IsFilling old new number fits before filled Waits = fits × (IsReadyTask filled → ⊥) × HasInPlace old new number (Some filled)
  IsFilling old new number fits before filled Last = fits × IsReadyTask filled × HasInPlace old new number (Some filled)
