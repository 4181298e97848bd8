-- What is known of the lanes of a hand and of bins between their turns, and of a task that is carried.
use Rattle.std.specs.Prelude.{◌≡◌, ℕ, true, false, List, [], Some, None, All, map}
use Rattle.app_core.specs.declared.label.Label.{Label}
use Rattle.app_core.specs.declared.outline.Outline.{Outline}
use Rattle.event_lists.specs.declared.event.Event.{Event}
use Rattle.event_lists.specs.declared.mark.Item.TheVariants.{Task}
use Rattle.event_lists.specs.declared.future.Bringer.{Bringer}
use Rattle.event_lists.specs.Events.{main_of, part, in_hand, IsSubmitted}
use Rattle.event_lists.specs.Futures.{needs_of}
use Rattle.event_lists.specs.OwnEvents.{was_needed_on_lane}
use Rattle.event_lists.specs.Legal.{Legal}
use Rattle.event_books.specs.Books.{lanes_from}
use Rattle.world_rule.specs.declared.view.Pending.TheVariants.{Counted}
use Rattle.world_rule.specs.declared.view.Load.TheVariants.{OfTask}
use Rattle.world_rule.specs.Owing.{owed}
use Rattle.world_rule.specs.Views.{progress}
use Rattle.world_rule.specs.Steps.{KnowsStored}
use Rattle.world_words.specs.Lanes.{WordsView, LaneView, CarrierView, task_name}
use Rattle.world_words.specs.Closing.{name_of, IsFree}

-- no spawn among the events of a lane of rank 0 needs a future
abbrev pub NeedsNothing : List Event → Type 0
NeedsNothing mine = (b : Bringer) (d : Label) → was_needed_on_lane 0 b d mine ≡ false

-- the main's lane of rank 0 is free, and has nothing in hand
pub record IsResting {A : Type 0} (words : WordsView A) (v : LaneView) : Type 0 where
  pub free : IsFree words v
  pub name : v.name ≡ main_of 0
  pub hand : in_hand v.mine ≡ None
  pub quiet : NeedsNothing v.mine

-- it owes nothing, and has a task in hand without a due, of whose effects, with these outlines, it is at this one; the puts
-- and erases before are known to be carried out
pub record IsAt {A : Type 0} (words : WordsView A) (os : List Outline) (at : ℕ) (v : LaneView) : Type 0 where
  pub number : ℕ
  pub table : v.table ≡ words.table
  pub owes : v.owes ≡ None
  pub kept : v.kept ≡ words.trace
  pub name : v.name ≡ main_of 0
  pub hand : in_hand v.mine ≡ Some (Task 0 number)
  pub far : v.progress ≡ Some (progress 0 number os at)
  pub knows : KnowsStored (progress 0 number os at) at v.seen
  pub quiet : NeedsNothing v.mine
  pub unit : Label
  pub submitted : IsSubmitted 0 number (task_name unit [] None) v.seen
  pub legal : Legal words.ranks words.workers v.seen
  pub own : part v.name v.seen ≡ v.mine

-- the carrier has the task of a unit, without a due and without needs
pub record BringsTask {A : Type 0} (words : WordsView A) (unit : Label) (c : CarrierView) : Type 0 where
  pub number : ℕ
  pub table : c.table ≡ words.table
  pub owes : c.owed ≡ owed (Counted (Task 0 number)) 0 (OfTask (task_name unit [] None))
  pub submitted : IsSubmitted 0 number (task_name unit [] None) c.seen
  pub needs : needs_of (Task 0 number) c.seen ≡ []

-- a bin's lane is free, and has nothing in hand
pub record IsBin {A : Type 0} (words : WordsView A) (v : LaneView) : Type 0 where
  pub free : IsFree words v
  pub hand : in_hand v.mine ≡ None

-- the lanes of the bins of rank 0, by number
pub record AreBins {A : Type 0} (words : WordsView A) (bins : List LaneView) : Type 0 where
  pub names : map name_of bins ≡ lanes_from true 0 0 16
  pub all : All (IsBin words) bins
