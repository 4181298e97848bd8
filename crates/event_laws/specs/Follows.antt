-- What makes a list of events, the newest first, follow an application.
use Rattle.std.specs.Prelude.{◌≡◌, ℕ, suc, ◌+◌, ◌%◌, ◌<◌, Bool, true, false, ◌&&◌, ◌||◌, ◌==◌, if◌then◌else◌, List, [], ◌∷◌, ◌++◌, map, take, slice_get, Option, Some, None}
use Rattle.app_core.specs.declared.label.Label.{Label}
use Rattle.app_core.specs.declared.label.CellName.{CellName}
use Rattle.app_core.specs.declared.outline.Outline.{Outline}
use Rattle.app_core.specs.declared.outline.Outline.TheVariants as of
use Rattle.app_core.specs.declared.outline.CommandKind.{CommandKind}
use Rattle.app_core.specs.declared.outline.CommandKind.TheVariants.{Work, Fence}
use Rattle.event_lists.specs.declared.lane.LaneName.{LaneName}
use Rattle.event_lists.specs.declared.event.Event.{Event}
use Rattle.event_lists.specs.declared.event.Event.TheVariants.{Sent, TookMessage, TookTask, Submitted, Ran, Gave, Put, Erased, Enter, Leave}
use Rattle.event_lists.specs.declared.event.Parcel.TheVariants.{Unit as Spawned, Give}
use Rattle.event_lists.specs.declared.event.TaskName.{TaskName}
use Rattle.event_lists.specs.declared.mark.EffectName.{EffectName}
use Rattle.event_lists.specs.declared.mark.Item.{Item}
use Rattle.event_lists.specs.declared.mark.Item.TheVariants.{Message, Task}
use Rattle.event_lists.specs.declared.mark.Mark.{Mark}
use Rattle.event_lists.specs.Events.{part, in_hand, is_taken, IsSubmitted}
use Rattle.event_lists.specs.Legal.{Legal}

-- the outlines of the effects of each task that was begun, by the task's rank and number
abbrev pub TaskEffects : Type 0
TaskEffects = ℕ → ℕ → Option (List Outline)

-- whether an effect has its event on the lane of the hand that has the task; a put or an erase has it on a bin's lane
abbrev pub is_own : Outline → Bool
is_own (of.Spawn u d ns h) = true
is_own (of.Give f h) = true
is_own (of.Put c) = false
is_own (of.Erase c) = false

-- how many of these have their events on the hand's lane
abbrev pub owns : List Outline → ℕ
owns [] = 0
owns (o ∷ os) = (if is_own o then 1 else 0) + owns os

-- how many events a lane had since it took what it has in hand
abbrev pub since : List Event → ℕ
since [] = 0
since (TookMessage r n ∷ es) = 0
since (TookTask r n ∷ es) = 0
since (_ ∷ es) = suc (since es)

-- the event of an effect at rank r, with the number n where it is counted
abbrev pub event_of : ℕ → Outline → ℕ → Event
event_of r (of.Spawn u d ns h) n = if h == r then Submitted n (record { unit = u; needs = ns; due = d }) else Sent n h (Spawned u d)
event_of r (of.Give f h) n = if h == r then Gave f else Sent n h (Give f)
event_of r (of.Put c) n = Put c
event_of r (of.Erase c) n = Erased c

-- the event is that of this effect
abbrev pub Says : ℕ → Outline → Event → Type 0
Says r o e = (n : ℕ) × (e ≡ event_of r o n)

-- the bin of a rank in which an entry lies
abbrev pub bin_of : ℕ → CellName → LaneName
bin_of r c = record { rank = r; bin = true; number = c.place % 16 }

-- what a main does with nothing in hand: it starts a unit, or waits in a fence
pub data Doing : Type 0 where
  Start : Outline → Doing
  Wait : Doing

-- what rank 0's main does for the commands from c on, and at the end
abbrev pub program_from : ℕ → List CommandKind → (ℕ → List Outline) → List Doing
program_from c [] starts = Wait ∷ []
program_from c (Work ∷ ks) starts = map Start (starts c) ++ program_from (suc c) ks starts
program_from c (Fence ∷ ks) starts = Wait ∷ program_from (suc c) ks starts

-- the fences of a program
abbrev pub waits : List Doing → List Doing
waits [] = []
waits (Start o ∷ ds) = waits ds
waits (Wait ∷ ds) = Wait ∷ waits ds

-- what the main of a rank does: only rank 0's starts units
abbrev pub program_at : ℕ → List Doing → List Doing
program_at r ds = if r == 0 then ds else waits ds

-- whether an event, with this in hand before it, ends one thing that a main does
abbrev pub is_done : Option Item → Event → Bool
is_done None (Sent n to p) = true
is_done None (Submitted n t) = true
is_done None (Leave f) = true
is_done _ _ = false

-- how much of its program a main has done, by its part
abbrev pub deeds : List Event → ℕ
deeds [] = 0
deeds (e ∷ es) = (if is_done (in_hand es) e then 1 else 0) + deeds es

abbrev pub effect_name : ℕ → ℕ → ℕ → EffectName
effect_name r n i = record { rank = r; number = n; index = i }

abbrev pub is_effect : ℕ → ℕ → ℕ → Option EffectName → Bool
is_effect r n i None = false
is_effect r n i (Some f) = (r == f.rank) && ((n == f.number) && (i == f.index))

-- whether the effect at place i of task n of rank r was carried out
abbrev pub carried_out : ℕ → ℕ → ℕ → List Mark → Bool
carried_out r n i [] = false
carried_out r n i (x ∷ log) = is_effect r n i x.effect || carried_out r n i log

-- the event of a mark is the effect at place i of task n of its own rank, which was taken before, and whose effect at i
-- no earlier event carried out. If it is on the hand's lane, then its turn has come: the earlier effects on the hand's
-- lane are the events since the task was taken, and the puts and erases before it were carried out
pub record CarriesOut (task_effects : TaskEffects) (log : List Mark) (x : Mark) (r n i : ℕ) : Type 0 where
  pub os : List Outline
  pub o : Outline
  pub plan : task_effects r n ≡ Some os
  pub here : slice_get os i ≡ Some o
  pub says : Says x.lane.rank o x.event
  pub rank : r ≡ x.lane.rank
  pub effect : x.effect ≡ Some (effect_name r n i)
  pub taken : is_taken (Task r n) log ≡ true
  pub once : carried_out r n i log ≡ false
  pub before : (j : ℕ) (p : Outline) → is_own o ≡ true → j < i → slice_get os j ≡ Some p → is_own p ≡ false → carried_out r n j log ≡ true
  pub turn : is_own o ≡ true → owns (take i os) ≡ since (part x.lane log)

-- all effects of a task that is to end were carried out; mine is the part of the lane that has it in hand
pub record Finished (task_effects : TaskEffects) (log : List Mark) (mine : List Event) (r n : ℕ) : Type 0 where
  pub os : List Outline
  pub plan : task_effects r n ≡ Some os
  pub turn : owns os ≡ since mine
  pub before : (j : ℕ) (p : Outline) → slice_get os j ≡ Some p → is_own p ≡ false → carried_out r n j log ≡ true

-- with nothing in hand an event is the next start of a main; with a task in hand it is an effect of this task; with a
-- message in hand it is none of these
abbrev pub Acts : List Doing → TaskEffects → List Mark → Mark → List Event → Option Item → Type 0
Acts program task_effects log x mine None = (o : Outline) × (slice_get (program_at x.lane.rank program) (deeds mine) ≡ Some (Start o)) × Says x.lane.rank o x.event × (x.effect ≡ None)
Acts program task_effects log x mine (Some (Message r n)) = x.effect ≡ None
Acts program task_effects log x mine (Some (Task r n)) = (i : ℕ) × CarriesOut task_effects log x r n i

-- an entry is put or erased by an effect of a task, on the lane of its bin
abbrev pub Stores : TaskEffects → List Mark → Mark → CellName → Type 0
Stores task_effects log x c = (r : ℕ) × (n : ℕ) × (i : ℕ) × CarriesOut task_effects log x r n i × (x.lane ≡ bin_of x.lane.rank c)

-- an event goes on from the list before it as the application has it; mine is the lane's own part of that
abbrev pub Goes : List Doing → TaskEffects → List Mark → Mark → List Event → Event → Type 0
Goes program task_effects log x mine (Sent n to p) = Acts program task_effects log x mine (in_hand mine)
Goes program task_effects log x mine (Submitted n t) = Acts program task_effects log x mine (in_hand mine)
Goes program task_effects log x mine (Gave f) = Acts program task_effects log x mine (in_hand mine)
Goes program task_effects log x mine (Put c) = Stores task_effects log x c
Goes program task_effects log x mine (Erased c) = Stores task_effects log x c
Goes program task_effects log x mine (Ran n r t) = Finished task_effects log mine r t × (x.effect ≡ None)
Goes program task_effects log x mine (Enter f) = (slice_get (program_at x.lane.rank program) (deeds mine) ≡ Some Wait) × (x.effect ≡ None)
Goes program task_effects log x mine _ = x.effect ≡ None

abbrev pub FollowsBy : List Doing → TaskEffects → List Mark → Type 0
FollowsBy program task_effects [] = Unit {0}
FollowsBy program task_effects (x ∷ log) = Goes program task_effects log x (part x.lane log) x.event × FollowsBy program task_effects log

-- task n of rank r was submitted and taken, and a unit with its label may have these effects
pub record Planned (may : Label → List Outline → Type 0) (log : List Mark) (r n : ℕ) (os : List Outline) : Type 0 where
  pub task : TaskName
  pub submitted : IsSubmitted r n task log
  pub taken : is_taken (Task r n) log ≡ true
  pub may_do : may task.unit os

-- each event goes on as the application has it, where each begun task has effects that a unit with its label may have
pub record Follows (program : List Doing) (may : Label → List Outline → Type 0) (task_effects : TaskEffects) (log : List Mark) : Type 0 where
  pub planned : (r n : ℕ) (os : List Outline) → task_effects r n ≡ Some os → Planned may log r n os
  pub goes : FollowsBy program task_effects log

-- a legal list of so many ranks, with so many workers each, that follows
pub record IsRun (ranks workers : ℕ) (program : List Doing) (may : Label → List Outline → Type 0) (task_effects : TaskEffects) (log : List Mark) : Type 0 where
  pub legal : Legal ranks workers log
  pub follows : Follows program may task_effects log
