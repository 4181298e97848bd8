-- What an application's laws say of the lists of events that follow it.
use Rattle.std.specs.Prelude.{◌≡◌, ℕ, false, List, [], ◌∷◌, ◌++◌, Option, Some, None, slice_get, Contains}
use Rattle.std.specs.Option.{option_to_list}
use Rattle.app_core.specs.declared.label.Label.{Label}
use Rattle.app_core.specs.declared.label.CellName.{CellName}
use Rattle.app_core.specs.declared.outline.Outline.{Outline}
use Rattle.app_core.specs.declared.outline.Outline.TheVariants as of
use Rattle.event_lists.specs.declared.event.Event.{Event}
use Rattle.event_lists.specs.declared.event.Event.TheVariants.{Sent, TookTask, Submitted, Put}
use Rattle.event_lists.specs.declared.event.Parcel.TheVariants.{Unit as Spawned}
use Rattle.event_lists.specs.declared.future.Bringer.{Bringer}
use Rattle.event_lists.specs.declared.mark.Item.{Item}
use Rattle.event_lists.specs.declared.mark.Item.TheVariants.{Message}
use Rattle.event_lists.specs.declared.mark.Mark.{Mark}
use Rattle.event_lists.specs.Events.{Begins, StandsOn, part, in_hand}
use Rattle.event_lists.specs.Futures.{bringer, is_own, own_due, spawned_due, spawned_needs}
use Rattle.event_laws.specs.Follows.{TaskEffects, bin_of}

-- the label of the unit that an event spawns, with this in hand before it; with a message in hand a submission spawns
-- none, since the unit's spawn is the message
abbrev pub spawn_label : Option Item → Event → Option Label
spawn_label h (Sent n to (Spawned u d)) = Some u
spawn_label (Some (Message r m)) (Submitted n t) = None
spawn_label h (Submitted n t) = Some t.unit
spawn_label h _ = None

-- the labels of the units of all spawns
abbrev pub spawned : List Mark → List Label
spawned [] = []
spawned (x ∷ log) = option_to_list (spawn_label (in_hand (part x.lane log)) x.event) ++ spawned log

-- no label is there twice
abbrev pub Apart : List Label → Type 0
Apart [] = Unit {0}
Apart (u ∷ us) = (Contains us u → ⊥) × Apart us

-- the labels that an event names in the due or the needs of a spawn
abbrev pub named_in : Event → List Label
named_in e = option_to_list (spawned_due e) ++ spawned_needs e

-- this bringer named the label in the due or the needs of a spawn, and it isn't the label of the own due of the task in
-- hand
pub record Brought (b : Bringer) (l : Label) (log : List Mark) : Type 0 where
  pub x : Mark
  pub before : List Mark
  pub begins : Begins (x ∷ before) log
  pub by : bringer x.lane.rank (in_hand (part x.lane before)) ≡ Some b
  pub names : Contains (named_in x.event) l
  pub other : is_own l (own_due (in_hand (part x.lane before)) before) ≡ false

-- no label is created by two bringers
abbrev pub HasOneBringer : List Mark → Type 0
HasOneBringer log = (b c : Bringer) (l : Label) → Brought b l log → Brought c l log → b ≡ c

-- for effects of one kind, puts or erases: among the effects of all begun tasks, carried out or not, no entry has two
abbrev pub EffectsApart : (CellName → Outline) → TaskEffects → Type 0
EffectsApart f task_effects =
    (r n i q m j : ℕ) (os ps : List Outline) (c : CellName) → task_effects r n ≡ Some os → task_effects q m ≡ Some ps
    → slice_get os i ≡ Some (f c) → slice_get ps j ≡ Some (f c) → (r ≡ q) × (n ≡ m) × (i ≡ j)

-- an entry was put in its bin at rank r before task n of this rank was taken
pub record PutBefore (log : List Mark) (r n : ℕ) (c : CellName) : Type 0 where
  pub x : Mark
  pub before : List Mark
  pub begins : Begins (x ∷ before) log
  pub takes_it : x.event ≡ TookTask r n
  pub was_put : StandsOn (bin_of r c) (Put c) before

-- each entry that a begun task erases was put before the task was taken
abbrev pub ErasesPut : TaskEffects → List Mark → Type 0
ErasesPut task_effects log = (r n i : ℕ) (os : List Outline) (c : CellName) → task_effects r n ≡ Some os → slice_get os i ≡ Some (of.Erase c) → PutBefore log r n c
