-- A task of numbers and a table of futures, for the examples: the task needs two futures and reads one entry.
use Rattle.std.specs.Prelude.{ℕ, List, [], ◌∷◌, Some, None}
use Rattle.app_core.specs.declared.label.Label.{Label}
use Rattle.event_lists.specs.declared.future.Bringer.TheVariants.{Main}
use Rattle.event_lists.specs.declared.future.Future.{Future}
use Rattle.future_cell.specs.declared.callback.Callback.{Callback}
use Rattle.task_tables.specs.declared.future_state.FutureState.{FutureState}
use Rattle.task_tables.specs.declared.future_state.FutureState.TheVariants.{Given, Waiting}
use Rattle.task_tables.specs.Tasks.{TaskData}

abbrev pub second : Label
second = record { command = 1; part = 0; place = 2 }

abbrev pub third : Label
third = record { command = 1; part = 0; place = 3 }

abbrev pub future_of : Label → Future
future_of label = record { by = Main 0; label = label }

-- none of its places is filled
abbrev pub waiting : TaskData ℕ ℕ ℕ
waiting = record { unit = 0; number = 6; due = None; needs = second ∷ third ∷ []; values = None ∷ None ∷ []; cells = None ∷ [] }

-- the second future has the value 5, and for the third these callbacks wait
abbrev pub futures : List Callback → List (Future × FutureState ℕ)
futures callbacks = (future_of second, Given (Some 5)) ∷ (future_of third, Waiting callbacks) ∷ []
