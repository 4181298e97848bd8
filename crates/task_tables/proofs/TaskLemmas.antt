-- Tasks stay what they are while their places are filled, and tables of tasks change at one number.
use Rattle.std.proofs.Common.{◌≡◌, ◌==◌, ℕ, Bool, true, false, cond, length, map, List, Option, Some, None, inl, inr, refl, ap, sym, ◌∙◌}
use Rattle.app_core.specs.declared.label.Label.{Label}
use Rattle.app_core.specs.declared.label.CellName.{CellName}
use Rattle.std.specs.Prelude.{◌↔◌, IsSome, replicate, slice_get, slice_set}
use Rattle.event_lists.specs.declared.future.Bringer.{Bringer}
use Rattle.std.proofs.lemmas.Bool.Decides.{eqb_tells}
use Rattle.app_core.specs.Inputs.{AreRight}
use Rattle.task_tables.specs.Tasks.{TaskData, IsReadyTask, IsTaskOf, with_value, with_cell, task_of, HasInPlace, HasTheSame, FillsPlace}
use Rattle.task_tables.proofs.PlaceLemmas.{empty_places, fill_place, filled_places}

module _ {U V C : Type 0} where
  module _ (is_unit : U → Type 0) (due_of : U → Option Label) (needs_of : U → List Label) (reads_of : U → List CellName) (right_value : Label → V → Type 0) (right_cell : CellName → C → Type 0) where
    pub fresh_task : (u : U) (number : ℕ) (by : Option Bringer) (ns : List Label) → is_unit u → (IsSome by ↔ IsSome (due_of u)) → needs_of u ≡ ns
        → IsTaskOf is_unit due_of needs_of reads_of right_value right_cell (record { unit = u; number = number; due = by; needs = ns; values = replicate (length ns) None; cells = replicate (length (reads_of u)) None })
    fresh_task u number by ns unit due needs = record {
      unit = unit;
      due = due;
      needs = needs;
      values = empty_places right_value ns;
      cells = empty_places right_cell (reads_of u);
    }

    -- a task of these parts
    pub fresh_parts : (u v : U) (number m : ℕ) (by byy : Option Bringer) (ns ms : List Label) (reads : ℕ) (values : List (Option V)) (cells : List (Option C))
        → is_unit u → (IsSome by ↔ IsSome (due_of u)) → needs_of u ≡ ns → reads ≡ length (reads_of u)
        → (v ≡ u) × (m ≡ number) × (byy ≡ by) × (ms ≡ ns) → (values ≡ replicate (length ns) None) × (cells ≡ replicate reads None)
        → IsTaskOf is_unit due_of needs_of reads_of right_value right_cell (record { unit = v; number = m; due = byy; needs = ms; values = values; cells = cells })
    fresh_parts u v number m by byy ns ms reads values cells unit due needs many parts places =
        rw (parts.0, parts.1, parts.2, parts.3, places.0, places.1, many) (fresh_task u number by ns unit due needs)

    -- what a task that is ready hands to its step
    pub opened : (task : TaskData U V C) (vs : List V) (cs : List C) → IsTaskOf is_unit due_of needs_of reads_of right_value right_cell task → map Some vs ≡ task.values → map Some cs ≡ task.cells
        → is_unit task.unit × (IsSome task.due ↔ IsSome (due_of task.unit)) × AreRight right_value (needs_of task.unit) vs × AreRight right_cell (reads_of task.unit) cs
    opened task vs cs is values cells = (
      is.unit,
      is.due,
      rw is.needs (filled_places right_value task.needs vs (rw values is.values)),
      filled_places right_cell (reads_of task.unit) cs (rw cells is.cells),
    )

    pub value_fills : (task : TaskData U V C) (i : ℕ) (future : Label) (v : V) → IsTaskOf is_unit due_of needs_of reads_of right_value right_cell task → slice_get task.needs i ≡ Some future → right_value future v
        → IsTaskOf is_unit due_of needs_of reads_of right_value right_cell (with_value task i v)
    value_fills task i future v is at right = record {
      unit = is.unit;
      due = is.due;
      needs = is.needs;
      values = fill_place right_value task.needs task.values i future v is.values at right;
      cells = is.cells;
    }

    pub cell_fills : (task : TaskData U V C) (i : ℕ) (entry : CellName) (c : C) → IsTaskOf is_unit due_of needs_of reads_of right_value right_cell task → slice_get (reads_of task.unit) i ≡ Some entry → right_cell entry c
        → IsTaskOf is_unit due_of needs_of reads_of right_value right_cell (with_cell task i c)
    cell_fills task i entry c is at right = record {
      unit = is.unit;
      due = is.due;
      needs = is.needs;
      values = is.values;
      cells = fill_place right_cell (reads_of task.unit) task.cells i entry c is.cells at right;
    }

    -- a task after a value or a cell was to fill a place, which it did or not
    pub value_learned : (task : TaskData U V C) (vs : List (Option V)) (b : Bool) (i : ℕ) (future : Label) (v : V) → IsTaskOf is_unit due_of needs_of reads_of right_value right_cell task → slice_get task.needs i ≡ Some future
        → right_value future v → (b ≡ true → vs ≡ slice_set task.values i (Some v)) → (b ≡ false → vs ≡ task.values)
        → IsTaskOf is_unit due_of needs_of reads_of right_value right_cell (record { unit = task.unit; number = task.number; due = task.due; needs = task.needs; values = vs; cells = task.cells })
    value_learned task vs true i future v is at right filled same = rw (filled refl) (value_fills task i future v is at right)
    value_learned task vs false i future v is at right filled same = rw (same refl) is

    pub cell_learned : (task : TaskData U V C) (cs : List (Option C)) (b : Bool) (i : ℕ) (entry : CellName) (x : C) → IsTaskOf is_unit due_of needs_of reads_of right_value right_cell task → slice_get (reads_of task.unit) i ≡ Some entry
        → right_cell entry x → (b ≡ true → cs ≡ slice_set task.cells i (Some x)) → (b ≡ false → cs ≡ task.cells)
        → IsTaskOf is_unit due_of needs_of reads_of right_value right_cell (record { unit = task.unit; number = task.number; due = task.due; needs = task.needs; values = task.values; cells = cs })
    cell_learned task cs true i entry x is at right filled same = rw (filled refl) (cell_fills task i entry x is at right)
    cell_learned task cs false i entry x is at right filled same = rw (same refl) is

  -- a task that was changed and then taken out
  pub changed_and_taken : (old between new : List (ℕ × TaskData U V C)) (number : ℕ) (task : Option (TaskData U V C)) → HasInPlace old between number task → HasInPlace between new number None
      → HasInPlace old new number None
  changed_and_taken old between new number task changed taken = λ other. go other (number == other) refl
    where
      go : (other : ℕ) (b : Bool) → (number == other) ≡ b → task_of new other ≡ cond (number == other) None (task_of old other)
      go other true same = taken other ∙ ap (λ b. cond b None (task_of between other)) same ∙ ap (λ b. cond b None (task_of old other)) (sym same)
      go other false apart = taken other ∙ ap (λ b. cond b None (task_of between other)) apart ∙ changed other ∙ ap (λ b. cond b task (task_of old other)) apart
          ∙ ap (λ b. cond b None (task_of old other)) (sym apart)

  -- a table in which one task is what it was
  pub same_in_place : (old new : List (ℕ × TaskData U V C)) (number : ℕ) (task : TaskData U V C) → task_of old number ≡ Some task → HasInPlace old new number (Some task) → HasTheSame old new
  same_in_place old new number task before change = λ other. elim (eqb_tells number other) [
    | inl t ↦ change other ∙ ap (λ b. cond b (Some task) (task_of old other)) t.0 ∙ sym before ∙ ap (λ n. task_of old n) t.1
    | inr t ↦ change other ∙ ap (λ b. cond b (Some task) (task_of old other)) t.0
  ]

  in_place : (old new : List (ℕ × TaskData U V C)) (number : ℕ) (task : Option (TaskData U V C)) → HasInPlace old new number task → task_of new number ≡ task
  in_place old new number task change = elim (eqb_tells number number) [
    | inl t ↦ change number ∙ ap (λ b. cond b task (task_of old number)) t.0
    | inr t ↦ absurd (t.1 refl)
  ]

  -- a refused value, one of several, and the last one
  pub refuses : (old new : List (ℕ × TaskData U V C)) (number : ℕ) (fits : Type 0) (before filled : TaskData U V C) → task_of old number ≡ Some before → (fits → ⊥) × HasInPlace old new number (Some before)
      → FillsPlace old new number fits filled None
  refuses old new number fits before filled is filling = record {
    refused = λ _. (refl, same_in_place old new number before is filling.1);
    waits = λ fit _. absurd (filling.0 fit);
    last = λ fit _. absurd (filling.0 fit);
  }

  pub waits_on : (old new : List (ℕ × TaskData U V C)) (number : ℕ) (fits : Type 0) (filled : TaskData U V C) → fits × (IsReadyTask filled → ⊥) × HasInPlace old new number (Some filled)
      → FillsPlace old new number fits filled None
  waits_on old new number fits filled filling = record {
    refused = λ unfit. absurd (unfit filling.0);
    waits = λ _ _. (refl, filling.2);
    last = λ _ ready. absurd (filling.1 ready);
  }

  pub comes_out : (old between new : List (ℕ × TaskData U V C)) (number : ℕ) (fits : Type 0) (filled : TaskData U V C) (result : Option (TaskData U V C))
      → fits × IsReadyTask filled × HasInPlace old between number (Some filled) → ((task : TaskData U V C) → task_of between number ≡ Some task → IsReadyTask task → result ≡ Some task) → HasInPlace between new number None
      → FillsPlace old new number fits filled result
  comes_out old between new number fits filled result filling taken rest = record {
    refused = λ unfit. absurd (unfit filling.0);
    waits = λ _ unready. absurd (unready filling.1);
    last = λ _ ready. (taken filled (in_place old between number (Some filled) filling.2) ready, changed_and_taken old between new number (Some filled) filling.2 rest);
  }
