-- What an atomic step tells the seat that takes it, and what its event must be to go on as the application has it.
use Rattle.std.specs.Prelude.{◌≡◌, ◌⊎◌, ℕ, ◌<◌, Bool, true, false, ◌==◌, List, ◌∷◌, slice_get, take, Option, Some, None, Contains}
use Rattle.atomic_table.specs.Table.{Me}
use Rattle.app_core.specs.declared.label.Label.{Label}
use Rattle.app_core.specs.declared.outline.Outline.{Outline}
use Rattle.event_lists.specs.declared.lane.LaneName.{LaneName}
use Rattle.event_lists.specs.declared.event.Event.{Event}
use Rattle.event_lists.specs.declared.event.Event.TheVariants.{Sent, Submitted, Gave}
use Rattle.event_lists.specs.declared.mark.Item.{Item}
use Rattle.event_lists.specs.declared.mark.Item.TheVariants.{Message, Task}
use Rattle.event_lists.specs.declared.mark.EffectName.{EffectName}
use Rattle.event_lists.specs.declared.mark.Mark.{Mark}
use Rattle.event_lists.specs.declared.kind.Kind.{Kind}
use Rattle.event_lists.specs.Events.{Begins, part, count, in_hand}
use Rattle.event_lists.specs.Legal.{IsLane}
use Rattle.event_laws.specs.Follows.{TaskEffects, Doing, Start, IsRun, is_own, owns, since, carried_out, program_at, deeds, event_of}
use Rattle.world_rule.specs.declared.view.OwnPart.{OwnPart}
use Rattle.world_rule.specs.declared.view.Progress.{Progress}
use Rattle.world_rule.specs.declared.view.View.{View}
use Rattle.world_rule.specs.Views.{mark, numbered, own_events, next_effect, seeing, after_event, after_begin, after_draw, after_look, after_stop, after_stop_look}
use Rattle.world_rule.specs.CounterWords.{word_at}

-- a task that was begun is in hand on the lane with these events, has these effects, and those of the effects so far that
-- the hand itself carries out are the events since it was taken
pub record IsUnderWay (task_effects : TaskEffects) (mine : List Event) (b : Progress) : Type 0 where
  pub hand : in_hand mine ≡ Some (Task b.rank b.number)
  pub plan : task_effects b.rank b.number ≡ Some b.outlines
  pub turn : owns (take b.at b.outlines) ≡ since mine

-- what a seat with these lanes sees is a run, in which its task, once it was begun, is under way
pub record SeesRun (ranks workers : ℕ) (program : List Doing) (may : Label → List Outline → Type 0) (seen : List Mark) (parts : List OwnPart) (task : Option Progress) : Type 0 where
  pub task_effects : TaskEffects
  pub run : IsRun ranks workers program may task_effects seen
  pub begun : (b : Progress) → task ≡ Some b → (p : OwnPart) × Contains parts p × IsUnderWay task_effects p.events b

-- a seat that had the view v, and changes to v' but for what it sees, has the view w after a step without an event. What
-- it had seen and was told begins what it sees
pub record Looked (ranks workers : ℕ) (program : List Doing) (may : Label → List Outline → Type 0) (v v' w : View) : Type 0 where
  pub changes : w ≡ seeing w.seen v'
  pub seen : Begins v.seen w.seen
  pub told : Begins v.told w.seen
  pub own : (p : OwnPart) → Contains w.parts p → part p.lane w.seen ≡ p.events
  pub named : (p : OwnPart) → Contains w.parts p → IsLane ranks workers p.lane
  pub run : SeesRun ranks workers program may w.seen w.parts w.progress

-- the same after a step that appends the mark x, on a seat that has the mark's lane alone
pub record Appended (ranks workers : ℕ) (program : List Doing) (may : Label → List Outline → Type 0) (x : Mark) (v w : View) : Type 0 where
  pub changes : w ≡ seeing w.seen (after_event x.lane x.event v)
  pub before : List Mark
  pub now : w.seen ≡ x ∷ before
  pub seen : Begins v.seen before
  pub told : Begins v.told before
  pub own : part x.lane w.seen ≡ x.event ∷ own_events v.parts
  pub run : SeesRun ranks workers program may w.seen w.parts w.progress

abbrev pub M : Type 0
M = Me (Unit {0}) View

-- a step that finds n appends this event with the number n, for this effect
abbrev pub Appends : ℕ → ℕ → List Doing → (Label → List Outline → Type 0) → LaneName → Event → Option EffectName → M → ℕ → M → Type 0
Appends ranks workers program may l e f m n w = Appended ranks workers program may (mark l (numbered n e) f) m.0 w.0 × (w.1 ≡ m.1)

-- a step without an event finds n in the word i
abbrev pub Finds : ℕ → ℕ → List Doing → (Label → List Outline → Type 0) → ℕ → M → ℕ → M → Type 0
Finds ranks workers program may i m n w = Looked ranks workers program may m.0 m.0 w.0 × ((k : Kind) (r : ℕ) → r < ranks → i ≡ word_at k r → n ≡ count k r w.0.seen) × (w.1 ≡ m.1)

-- the task in hand is begun
abbrev pub BeginsTask : ℕ → ℕ → List Doing → (Label → List Outline → Type 0) → Progress → M → M → Type 0
BeginsTask ranks workers program may b m w = Looked ranks workers program may m.0 (after_begin b m.0) w.0 × (w.1 ≡ m.1)

-- the next effect of the task in hand is drawn
abbrev pub DrawsEffect : ℕ → ℕ → List Doing → (Label → List Outline → Type 0) → Progress → Outline → M → M → Type 0
DrawsEffect ranks workers program may b o m w = Looked ranks workers program may m.0 (after_draw b o m.0) w.0 × (w.1 ≡ m.1)

-- the count of a kind at a rank is looked at
abbrev pub SeesCount : ℕ → ℕ → List Doing → (Label → List Outline → Type 0) → Kind → ℕ → M → ℕ → M → Type 0
SeesCount ranks workers program may k r m n w = Looked ranks workers program may m.0 (after_look k r n m.0) w.0 × (n ≡ count k r w.0.seen) × (w.1 ≡ m.1)

-- the stop word is set
abbrev pub SetsStop : ℕ → ℕ → List Doing → (Label → List Outline → Type 0) → M → M → Type 0
SetsStop ranks workers program may m w = Looked ranks workers program may m.0 (after_stop m.0) w.0 × (w.1 ≡ m.1)

-- the stop word is looked at: it is 0 or 1, and 1 where the seat set it or found it set before
abbrev pub SeesStop : ℕ → ℕ → List Doing → (Label → List Outline → Type 0) → M → ℕ → M → Type 0
SeesStop ranks workers program may m n w = Looked ranks workers program may m.0 (after_stop_look (n == 1) m.0) w.0 × ((m.0.set_stop ≡ true) ⊎ (m.0.saw_stop ≡ true) → n ≡ 1) × ((n ≡ 0) ⊎ (n ≡ 1)) × (w.1 ≡ m.1)

-- the effect that an event of the hand carries out: the next one of the task in hand
abbrev pub effect_of : Option Progress → Option EffectName
effect_of None = None
effect_of (Some b) = Some (next_effect b)

-- a sent, submitted or gave
abbrev pub acts : Event → Bool
acts (Sent n to p) = true
acts (Submitted n t) = true
acts (Gave f) = true
acts _ = false

-- the puts and erases before this place of a task are known to be carried out
abbrev pub KnowsStored : Progress → ℕ → List Mark → Type 0
KnowsStored b i log = (j : ℕ) (p : Outline) → j < i → slice_get b.outlines j ≡ Some p → is_own p ≡ false → carried_out b.rank b.number j log ≡ true

-- the event goes on as the application has it: with nothing in hand it is the next start of a main; with a task in hand
-- it is the next effect of this task, which was begun, and the puts and erases before it are known to be carried out
abbrev pub IsNextEffect : List Doing → Option Progress → List Mark → LaneName → List Event → Event → Option Item → Type 0
IsNextEffect program task seen l mine e None = (o : Outline) × (slice_get (program_at l.rank program) (deeds mine) ≡ Some (Start o)) × ((n : ℕ) → numbered n e ≡ event_of l.rank o n)
IsNextEffect program task seen l mine e (Some (Message r n)) = Unit {0}
IsNextEffect program task seen l mine e (Some (Task r n)) =
    (b : Progress) × (o : Outline) × (task ≡ Some b) × (slice_get b.outlines b.at ≡ Some o) × (is_own o ≡ true) × ((m : ℕ) → numbered m e ≡ event_of l.rank o m) × KnowsStored b b.at seen
