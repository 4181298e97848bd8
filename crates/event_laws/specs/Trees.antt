-- Facts on an application's plain data from which its laws over lists of events follow.
use Rattle.std.specs.Prelude.{◌≡◌, ◌≢◌, ◌⊎◌, ℕ, ◌<◌, List, [], Option, Some, None, slice_get, Contains}
use Rattle.app_core.specs.declared.label.Label.{Label}
use Rattle.app_core.specs.declared.label.CellName.{CellName}
use Rattle.app_core.specs.declared.outline.Outline.{Outline}
use Rattle.app_core.specs.declared.outline.Outline.TheVariants as of
use Rattle.app_core.specs.Outlines.{named}
use Rattle.event_laws.specs.Follows.{Doing, Start}

-- the label of the unit that an effect spawns
abbrev pub unit_of : Outline → Option Label
unit_of (of.Spawn u d ns h) = Some u
unit_of (of.Give f h) = None
unit_of (of.Put c) = None
unit_of (of.Erase c) = None

-- the labels of units form a tree: each tells its parent, the label of the unit that spawns it, or that a command starts
-- it; and no program and no list of effects has it twice
pub record LabelsAreTree (program : List Doing) (may : Label → List Outline → Type 0) (parent : Label → Option Label) : Type 0 where
  pub starts : (k : ℕ) (o : Outline) (u : Label) → slice_get program k ≡ Some (Start o) → unit_of o ≡ Some u → parent u ≡ None
  pub steps : (p : Label) (os : List Outline) (i : ℕ) (o : Outline) (u : Label) → may p os → slice_get os i ≡ Some o → unit_of o ≡ Some u → parent u ≡ Some p
  pub start_once : (k j : ℕ) (o q : Outline) (u : Label) → slice_get program k ≡ Some (Start o) → slice_get program j ≡ Some (Start q) → unit_of o ≡ Some u → unit_of q ≡ Some u → k ≡ j
  pub step_once : (p : Label) (os : List Outline) (i j : ℕ) (o q : Outline) (u : Label) → may p os → slice_get os i ≡ Some o → slice_get os j ≡ Some q → unit_of o ≡ Some u → unit_of q ≡ Some u → i ≡ j

-- a future's label tells the label of the unit that creates it, or that a command's start does; and a unit's label
-- tells the unit's due, which the unit itself doesn't create
pub record BringsUp (program : List Doing) (may : Label → List Outline → Type 0) (raiser dues : Label → Option Label) : Type 0 where
  pub starts : (k : ℕ) (o : Outline) (l : Label) → slice_get program k ≡ Some (Start o) → Contains (named o) l → raiser l ≡ None
  pub steps : (p : Label) (os : List Outline) (i : ℕ) (o : Outline) (l : Label) → may p os → slice_get os i ≡ Some o → Contains (named o) l → dues p ≢ Some l → raiser l ≡ Some p
  pub start_due : (k : ℕ) (u : Label) (d : Option Label) (ns : List Label) (h : ℕ) → slice_get program k ≡ Some (Start (of.Spawn u d ns h)) → d ≡ dues u
  pub step_due : (p : Label) (os : List Outline) (i : ℕ) (u : Label) (d : Option Label) (ns : List Label) (h : ℕ) → may p os → slice_get os i ≡ Some (of.Spawn u d ns h) → d ≡ dues u

-- only p spawns a unit of label q, and with these effects it spawns none
pub record SpawnsNot (parent : Label → Option Label) (p : Label) (os : List Outline) (q : Label) : Type 0 where
  pub spawner : parent q ≡ Some p
  pub none : (i : ℕ) (o : Outline) → slice_get os i ≡ Some o → unit_of o ≡ Some q → ⊥

-- for effects of one kind, puts or erases: where two units may have such an effect on one entry, they are one, or one is the
-- other's spawner and with this effect doesn't spawn it; and a unit has it at one place
pub record IsOnce (may : Label → List Outline → Type 0) (parent : Label → Option Label) (f : CellName → Outline) : Type 0 where
  pub unit : (p q : Label) (os ps : List Outline) (i j : ℕ) (c : CellName) → may p os → may q ps → slice_get os i ≡ Some (f c) → slice_get ps j ≡ Some (f c)
      → (p ≡ q) ⊎ (SpawnsNot parent p os q ⊎ SpawnsNot parent q ps p)
  pub place : (p : Label) (os : List Outline) (i j : ℕ) (c : CellName) → may p os → slice_get os i ≡ Some (f c) → slice_get os j ≡ Some (f c) → i ≡ j

-- each spawn goes to the home of its unit's label and has the needs of this label; and a unit with needs has the home of
-- the unit that spawns it, or home 0 where a command starts it
pub record IsPlaced (program : List Doing) (may : Label → List Outline → Type 0) (home : Label → ℕ) (needs : Label → List Label) : Type 0 where
  pub starts : (k : ℕ) (u : Label) (d : Option Label) (ns : List Label) (h : ℕ) → slice_get program k ≡ Some (Start (of.Spawn u d ns h)) → (h ≡ home u) × (ns ≡ needs u) × (ns ≢ [] → h ≡ 0)
  pub steps : (p : Label) (os : List Outline) (i : ℕ) (u : Label) (d : Option Label) (ns : List Label) (h : ℕ) → may p os → slice_get os i ≡ Some (of.Spawn u d ns h) → (h ≡ home u) × (ns ≡ needs u) × (ns ≢ [] → h ≡ home p)

-- q is the label p, or one above it
pub data IsAbove (parent : Label → Option Label) (q : Label) : Label → Type 0 where
  same : (p : Label) → q ≡ p → IsAbove parent q p
  above : (p m : Label) → parent p ≡ Some m → IsAbove parent q m → IsAbove parent q p

-- each unit with this home that gives a future puts the entry before
abbrev pub GivesAfterPut : (Label → List Outline → Type 0) → (Label → ℕ) → Label → CellName → ℕ → Type 0
GivesAfterPut may home l c r =
    (w : Label) (os : List Outline) (i h : ℕ) → may w os → slice_get os i ≡ Some (of.Give l h) → (home w ≡ r) × ((k : ℕ) × (k < i) × (slice_get os k ≡ Some (of.Put c)))

-- a unit that erases an entry, or one above it, needs a future that is given after the entry was put, at the same rank
pub record ErasesWait (may : Label → List Outline → Type 0) (parent : Label → Option Label) (home : Label → ℕ) (needs : Label → List Label) : Type 0 where
  pub waits_for : (p : Label) (os : List Outline) (i : ℕ) (c : CellName) → may p os → slice_get os i ≡ Some (of.Erase c)
      → (q : Label) × (l : Label) × IsAbove parent q p × Contains (needs q) l × GivesAfterPut may home l c (home p)
