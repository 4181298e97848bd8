-- Tasks that have carried out all of their effects.
use Rattle.std.specs.Prelude.{◌≡◌, ℕ, true, List, Some, slice_get}
use Rattle.app_core.specs.declared.label.Label.{Label}
use Rattle.app_core.specs.declared.outline.Outline.{Outline}
use Rattle.event_lists.specs.declared.lane.LaneName.{LaneName}
use Rattle.event_lists.specs.declared.event.Event.TheVariants.{Gave}
use Rattle.event_lists.specs.declared.event.Parcel.{Parcel}
use Rattle.event_lists.specs.declared.event.Parcel.TheVariants.{Unit as Spawned, Give}
use Rattle.event_lists.specs.declared.event.TaskName.{TaskName}
use Rattle.event_lists.specs.declared.mark.Mark.{Mark}
use Rattle.event_lists.specs.Events.{StandsOn, IsSubmitted}
use Rattle.event_laws.specs.Follows.{TaskEffects, carried_out}

-- a unit with this label was submitted at this rank, and each of its effects, which are these, was carried out
pub record IsDone (may : Label → List Outline → Type 0) (task_effects : TaskEffects) (log : List Mark) (rank : ℕ) (unit : Label) (os : List Outline) : Type 0 where
  pub number : ℕ
  pub task : TaskName
  pub submitted : IsSubmitted rank number task log
  pub label : task.unit ≡ unit
  pub plan : task_effects rank number ≡ Some os
  pub may_do : may unit os
  pub all : (i : ℕ) (o : Outline) → slice_get os i ≡ Some o → carried_out rank number i log ≡ true

-- such a unit at this rank has this effect
pub record HasDone (may : Label → List Outline → Type 0) (task_effects : TaskEffects) (log : List Mark) (rank : ℕ) (o : Outline) : Type 0 where
  pub unit : Label
  pub os : List Outline
  pub done : IsDone may task_effects log rank unit os
  pub at : ℕ
  pub here : slice_get os at ≡ Some o

-- at this rank the unit that a message carries was submitted with its due, or the future given
abbrev pub IsHandedOn : ℕ → Parcel → List Mark → Type 0
IsHandedOn rank (Spawned u d) log = (number : ℕ) × (t : TaskName) × (t.unit ≡ u) × (t.due ≡ d) × IsSubmitted rank number t log
IsHandedOn rank (Give f) log = (l : LaneName) × (l.rank ≡ rank) × StandsOn l (Gave f) log
