-- Tasks beside their carriers, and beside what was told of the futures that they need.
use Rattle.std.specs.Prelude.{◌≡◌, ◌↔◌, ℕ, List, [], ◌∷◌, Option, Some, None, IsSome, slice_set, ⊤}
use Rattle.app_core.specs.declared.label.Label.{Label}
use Rattle.event_lists.specs.declared.event.Event.TheVariants.{TookTask}
use Rattle.event_lists.specs.declared.event.TaskName.{TaskName}
use Rattle.event_lists.specs.declared.future.Bringer.{Bringer}
use Rattle.event_lists.specs.declared.future.Future.{Future}
use Rattle.event_lists.specs.declared.mark.Item.TheVariants.{Task}
use Rattle.event_lists.specs.declared.mark.Mark.{Mark}
use Rattle.event_lists.specs.Events.{Begins}
use Rattle.event_lists.specs.Futures.{futures_by, needs_of}
use Rattle.app_core.specs.declared.outline.Outline.{Outline}
use Rattle.world_words.specs.Lanes.{WordsView, LaneView, CarrierView, ToldView, Grew}
use Rattle.world_carriers.specs.Carried.{CarriesTask}
use Rattle.task_tables.specs.Places.{IsEmptyPlaceOf, AreRightPlaces}
use Rattle.task_tables.specs.Tasks.{TaskData, with_value, with_cell}
use Rattle.lane_tasks.specs.Tolds.{IsTableOf, IsToldOf}

-- what contracts see of a task beside its carrier: the task, who created the futures that it needs, its carrier, and a
-- place for what was told with the value of each future
pub record LaneTaskData (U V C : Type 0) : Type 0 where
  pub task : TaskData U V C
  pub by : Option Bringer
  pub carrier : CarrierView
  pub tolds : List (Option ToldView)

-- places are filled in both, or in neither
abbrev pub AreFilledAlike : {S T : Type 0} → List (Option S) → List (Option T) → Type 0
AreFilledAlike [] [] = ⊤
AreFilledAlike [] (y ∷ ys) = ⊥
AreFilledAlike (x ∷ xs) [] = ⊥
AreFilledAlike (x ∷ xs) (y ∷ ys) = (IsSome x ↔ IsSome y) × AreFilledAlike xs ys

module _ {U V C : Type 0} where
  -- the place of this index is empty, and it is one for this future
  pub record IsPlaceOf (task : LaneTaskData U V C) (index : ℕ) (future : Future) : Type 0 where
    pub by : task.by ≡ Some future.by
    pub empty : IsEmptyPlaceOf task.task.needs task.task.values index future.label

  -- the task with a value in a place and what was told with it, and with a cell in a place
  abbrev pub with_told_value : LaneTaskData U V C → ℕ → V → ToldView → LaneTaskData U V C
  with_told_value task index value told = record { task = with_value task.task index value; by = task.by; carrier = task.carrier; tolds = slice_set task.tolds index (Some told) }

  abbrev pub with_told_cell : LaneTaskData U V C → ℕ → C → LaneTaskData U V C
  with_told_cell task index cell = record { task = with_cell task.task index cell; by = task.by; carrier = task.carrier; tolds = task.tolds }

  -- the carrier is one of the words, and has this task; the futures that the task needs, as its carrier knows, are those
  -- of its places; and with each value came what knows that its future was given
  pub record IsLaneTask {A : Type 0} (words : Option (WordsView A)) (task : LaneTaskData U V C) : Type 0 where
    pub table : IsTableOf words task.carrier.table
    pub carries : (name : TaskName) × CarriesTask task.task.number name task.carrier
    pub needs : needs_of (Task task.carrier.owed.to task.task.number) task.carrier.seen ≡ futures_by task.by task.task.needs
    pub told : AreRightPlaces (IsToldOf words task.by) task.task.needs task.tolds
    pub alike : AreFilledAlike task.task.values task.tolds

-- the lane learnt, and then took the task of this number of its rank in hand
abbrev pub TookUp : {A : Type 0} → WordsView A → (Label → List Outline → Type 0) → ℕ → LaneView → LaneView → Type 0
TookUp words may number old new = (seen : List Mark) × Begins old.seen seen × Grew words may (TookTask old.name.rank number) None (record old { seen = seen }) new
