-- The rule of the table: its words and the views of its seats show one list of events, which is legal and follows the
-- application.
use Rattle.std.specs.Prelude.{◌≡◌, ◌⊎◌, ℕ, suc, ◌^◌, ◌<◌, ◌≤◌, true, false, ◌&&◌, ◌==◌, if◌then◌else◌, List, map, length, take, slice_index, slice_get, Some, None, Contains}
use mathlib.Core.Option.{some}
use lib.ListN.{get_elem?}
use Rattle.atomic_table.specs.Table.{State}
use Rattle.app_core.specs.declared.label.Label.{Label}
use Rattle.app_core.specs.declared.outline.Outline.{Outline}
use Rattle.event_lists.specs.declared.lane.LaneName.{LaneName}
use Rattle.event_lists.specs.declared.mark.Item.{Item}
use Rattle.event_lists.specs.declared.mark.Item.TheVariants.{Task}
use Rattle.event_lists.specs.declared.mark.Mark.{Mark}
use Rattle.event_lists.specs.declared.kind.Kind.{Kind}
use Rattle.event_lists.specs.declared.kind.Kind.TheVariants.{Submissions as submissions, Runs as runs}
use Rattle.event_lists.specs.Events.{Begins, part, count, in_hand, is_taken}
use Rattle.event_lists.specs.Legal.{Legal, IsLane}
use Rattle.event_laws.specs.Follows.{TaskEffects, Doing, Follows, is_own, owns, since, carried_out}
use Rattle.world_rule.specs.declared.view.Pending.{Pending}
use Rattle.world_rule.specs.declared.view.Pending.TheVariants.{Counted, Drawn}
use Rattle.world_rule.specs.declared.view.Load.TheVariants.{OfEffect}
use Rattle.world_rule.specs.declared.view.Owed.{Owed}
use Rattle.world_rule.specs.declared.view.OwnPart.{OwnPart}
use Rattle.world_rule.specs.declared.view.Progress.{Progress}
use Rattle.world_rule.specs.declared.view.CountLooks.{CountLooks}
use Rattle.world_rule.specs.declared.view.View.{View}
use Rattle.world_rule.specs.Owing.{is_settled, Made}
use Rattle.world_rule.specs.Views.{empty_part, spent}
use Rattle.world_rule.specs.CounterWords.{all_lanes, stop_word, WordsShow, StopWordShows}

-- how many effects of a task, by its rank and number, were carried out or drawn
abbrev pub DrawnCounts : Type 0
DrawnCounts = ℕ → ℕ → ℕ

-- it is a drawn effect of a begun task, a put or an erase with this outline, for a bin of the task's rank
abbrev pub IsDrawn : TaskEffects → DrawnCounts → Pending → ℕ → Outline → Type 0
IsDrawn task_effects drawn (Counted c) to w = ⊥
IsDrawn task_effects drawn (Drawn f) to w =
    (os : List Outline) × (task_effects f.rank f.number ≡ Some os) × (slice_get os f.index ≡ Some w) × (is_own w ≡ false) × (f.index < drawn f.rank f.number) × (to ≡ f.rank)

-- what is owed was made, or is a drawn effect
abbrev pub IsMadeOrDrawn : TaskEffects → DrawnCounts → Owed → List Mark → Type 0
IsMadeOrDrawn task_effects drawn o log = Made o log ⊎ ((w : Outline) × (o.load ≡ OfEffect w) × IsDrawn task_effects drawn o.pending o.to w)

-- the task of a drawn effect is in hand
abbrev pub ItsTaskIsInHand : Pending → List Mark → Type 0
ItsTaskIsInHand (Counted c) log = Unit {0}
ItsTaskIsInHand (Drawn f) log = (l : LaneName) × (in_hand (part l log) ≡ Some (Task f.rank f.number))

-- what a look found of a count isn't above the count
abbrev pub LooksShow : Kind → CountLooks → List Mark → Type 0
LooksShow k l log = l.found ≤ count k l.rank log

-- the task in hand of one of these lanes was begun and is so far: as many of its effects were carried out or drawn, no
-- other was carried out, and those that the hand itself carries out are the events since the task was taken
pub record ProgressShows (task_effects : TaskEffects) (drawn : DrawnCounts) (log : List Mark) (parts : List OwnPart) (b : Progress) : Type 0 where
  pub lane : OwnPart
  pub has : Contains parts lane
  pub hand : in_hand lane.events ≡ Some (Task b.rank b.number)
  pub rank : b.rank ≡ lane.lane.rank
  pub plan : task_effects b.rank b.number ≡ Some b.outlines
  pub drawn_is : drawn b.rank b.number ≡ b.at
  pub turn : owns (take b.at b.outlines) ≡ since lane.events
  pub left : (i : ℕ) → b.at ≤ i → carried_out b.rank b.number i log ≡ false

-- what the view of the seat of a number shows. The seat `lane_owner l` has the lane l; the seat `item_owner c` owes the
-- pending c, or has it in hand
pub record ViewShows (ranks workers : ℕ) (log : List Mark) (lane_owner : LaneName → ℕ) (item_owner : Pending → ℕ) (task_effects : TaskEffects) (drawn : DrawnCounts) (id : ℕ) (v : View) : Type 0 where
  pub seen : Begins v.seen log
  pub told : Begins v.told log
  pub parts : (p : OwnPart) → Contains v.parts p → (lane_owner p.lane ≡ id) × (part p.lane log ≡ p.events) × IsLane ranks workers p.lane
  pub hand : (p : OwnPart) (c : Item) → Contains v.parts p → in_hand p.events ≡ Some c → (item_owner (Counted c) ≡ id) × (is_taken c log ≡ true)
  pub owes : (o : Owed) → v.owes ≡ Some o → (item_owner o.pending ≡ id) × IsMadeOrDrawn task_effects drawn o log × (is_settled o.pending log ≡ false) × ItsTaskIsInHand o.pending log
  pub progress : (b : Progress) → v.progress ≡ Some b → ProgressShows task_effects drawn log v.parts b
  pub looks : LooksShow runs v.ran_looks log × LooksShow submissions v.submitted_looks log
  pub idle : v.progress ≡ None → (p : OwnPart) (r n : ℕ) → Contains v.parts p → in_hand p.events ≡ Some (Task r n) → task_effects r n ≡ None

-- the words and all views show one legal list of events that follows the application
pub record ShowsOneRun (ranks workers : ℕ) (program : List Doing) (may : Label → List Outline → Type 0) (s : State (Unit {0}) View) : Type 0 where
  pub log : List Mark
  pub lane_owner : LaneName → ℕ
  pub item_owner : Pending → ℕ
  pub task_effects : TaskEffects
  pub drawn : DrawnCounts
  pub few : (ranks ≤ 16) × (workers ≤ 4)
  pub legal : Legal ranks workers log
  pub follows : Follows program may task_effects log
  pub short : (l : LaneName) → length (part l log) ≤ 2 ^ 48
  pub words : WordsShow ranks s.words log
  pub stop : StopWordShows (slice_index s.words stop_word) s.views
  pub views : (id : ℕ) (v : View) → get_elem? s.views id ≡ some v → ViewShows ranks workers log lane_owner item_owner task_effects drawn id v

-- the first seat has all lanes
abbrev pub root : ℕ → ℕ → View
root ranks workers = record spent { parts = map empty_part (all_lanes ranks workers) }

-- one more effect was drawn of this task
abbrev pub drawn_more : ℕ → ℕ → DrawnCounts → DrawnCounts
drawn_more r n drawn q m = if (q == r) && (m == n) then suc (drawn q m) else drawn q m

-- nothing was drawn of this task
abbrev pub drawn_none : ℕ → ℕ → DrawnCounts → DrawnCounts
drawn_none r n drawn q m = if (q == r) && (m == n) then 0 else drawn q m

-- this task has these effects
abbrev pub with_effects : ℕ → ℕ → List Outline → TaskEffects → TaskEffects
with_effects r n os task_effects q m = if (q == r) && (m == n) then Some os else task_effects q m
