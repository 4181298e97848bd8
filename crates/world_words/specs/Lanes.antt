-- What contracts see of the words, of lanes, and of what goes from one lane to another.
use Rattle.std.specs.Prelude.{◌≡◌, ℕ, suc, Bool, List, ◌∷◌, Option, Some, Contains}
use Rattle.atomic_table.specs.Seated.{TableId}
use Rattle.app_core.specs.declared.label.Label.{Label}
use Rattle.app_core.specs.declared.outline.Outline.{Outline}
use Rattle.event_lists.specs.declared.lane.LaneName.{LaneName}
use Rattle.event_lists.specs.declared.event.Event.{Event}
use Rattle.event_lists.specs.declared.event.TaskName.{TaskName}
use Rattle.event_lists.specs.declared.mark.EffectName.{EffectName}
use Rattle.event_lists.specs.declared.mark.Mark.{Mark}
use Rattle.event_lists.specs.Events.{Begins, part}
use Rattle.event_lists.specs.Legal.{IsLane}
use Rattle.event_books.specs.Books.{PartData}
use Rattle.event_laws.specs.Follows.{TaskEffects, Doing, IsRun}
use Rattle.world_rule.specs.declared.view.Owed.{Owed}
use Rattle.world_rule.specs.declared.view.OwnPart.{OwnPart}
use Rattle.world_rule.specs.declared.view.Progress.{Progress}
use Rattle.world_rule.specs.declared.view.CountLooks.{CountLooks}
use Rattle.world_rule.specs.Owing.{made_by}
use Rattle.world_rule.specs.Views.{mark, progress_after}
use Rattle.world_rule.specs.Steps.{IsUnderWay}

-- the words: their table, whether lanes keep traces, the application, and what rank 0's main does
pub record WordsView (A : Type 0) : Type 0 where
  pub table : TableId
  pub ranks : ℕ
  pub workers : ℕ
  pub trace : Bool
  pub app : A
  pub program : List Doing

-- a lane: its table and name, its own events and how the list of all events began, both the newest first, what it owes, how
-- far its task is once it was begun, whether it set the stop word, its looks, how many events it may still append, and
-- whether it keeps a trace
pub record LaneView : Type 0 where
  pub table : TableId
  pub name : LaneName
  pub mine : List Event
  pub seen : List Mark
  pub owes : Option Owed
  pub progress : Option Progress
  pub set_stop : Bool
  pub stop_looks : ℕ
  pub saw_stop : Bool
  pub ran_looks : CountLooks
  pub submitted_looks : CountLooks
  pub spare : ℕ
  pub kept : Bool

-- a carrier: what is owed, and how the list of events began, as far as the lane knew that packed it
pub record CarrierView : Type 0 where
  pub table : TableId
  pub seen : List Mark
  pub owed : Owed

-- how the list of events began, as far as a lane knew
pub record ToldView : Type 0 where
  pub table : TableId
  pub seen : List Mark

-- the seat that has the lanes which nobody has; what folded lanes kept, for a book, and room for more of it
pub record RootView : Type 0 where
  pub table : TableId
  pub parts : List OwnPart
  pub seen : List Mark
  pub set_stop : Bool
  pub saw_stop : Bool
  pub book : List PartData
  pub room : ℕ

abbrev pub task_name : Label → List Label → Option Label → TaskName
task_name u ns d = record { unit = u; needs = ns; due = d }

-- after a step the lane sees what it had seen, the whole of its own part, and all this as the beginning of a run, in which
-- its task, once it was begun, is under way
pub record SeesMore {A : Type 0} (words : WordsView A) (may : Label → List Outline → Type 0) (old new : LaneView) : Type 0 where
  pub seen : Begins old.seen new.seen
  pub own : part new.name new.seen ≡ new.mine
  pub run : (task_effects : TaskEffects) × IsRun words.ranks words.workers words.program may task_effects new.seen × ((b : Progress) → new.progress ≡ Some b → IsUnderWay task_effects new.mine b)

-- the lane's part grew by this event, which carries out this effect; the event is the last of all that the lane sees
pub record Grew {A : Type 0} (words : WordsView A) (may : Label → List Outline → Type 0) (e : Event) (f : Option EffectName) (old new : LaneView) : Type 0 where
  pub event : new.mine ≡ e ∷ old.mine
  pub before : List Mark
  pub now : new.seen ≡ mark old.name e f ∷ before
  pub knew : Begins old.seen before
  pub owing : new.owes ≡ made_by old.name e
  pub progress : new.progress ≡ progress_after e old.progress
  pub spare : suc new.spare ≡ old.spare
  pub kept : new.kept ≡ old.kept
  pub same : (new.table ≡ old.table) × (new.name ≡ old.name)
  pub stop : (new.set_stop ≡ old.set_stop) × (new.saw_stop ≡ old.saw_stop) × (new.stop_looks ≡ old.stop_looks)
  pub looks : (new.ran_looks ≡ old.ran_looks) × (new.submitted_looks ≡ old.submitted_looks)
  pub sees : SeesMore words may old new

-- the parts are those of lanes of these words in the list, which is a run
pub record Lawful {A : Type 0} (words : WordsView A) (may : Label → List Outline → Type 0) (parts : List OwnPart) (log : List Mark) : Type 0 where
  pub run : (task_effects : TaskEffects) × IsRun words.ranks words.workers words.program may task_effects log
  pub own : (p : OwnPart) → Contains parts p → part p.lane log ≡ p.events
  pub named : (p : OwnPart) → Contains parts p → IsLane words.ranks words.workers p.lane

-- there is one for each lane
abbrev pub HasAllLanes : ℕ → ℕ → List OwnPart → Type 0
HasAllLanes ranks workers parts = (l : LaneName) → IsLane ranks workers l → (p : OwnPart) × Contains parts p × (p.lane ≡ l)
