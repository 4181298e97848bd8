-- What comes before a fence: starts by their place in the program, units by their labels.
use Rattle.std.specs.Prelude.{◌≡◌, ℕ, ◌<◌, List, length, Option, Some, take, slice_get, Contains}
use Rattle.app_core.specs.declared.label.Label.{Label}
use Rattle.app_core.specs.declared.outline.Outline.{Outline}
use Rattle.app_core.specs.declared.outline.Outline.TheVariants as of
use Rattle.event_laws.specs.Follows.{Doing, Start, waits}
use Rattle.event_laws.specs.Trees.{unit_of}
use Rattle.event_laws.specs.Apart.{Apart}

-- how many fences are in a program
abbrev pub fences_in : List Doing → ℕ
fences_in ds = length (waits ds)

-- a unit's label tells how many fences come before it: a start's those before it in the program, a spawn's those of the
-- spawner
pub record IsStaged (program : List Doing) (may : Label → List Outline → Type 0) (stage : Label → ℕ) : Type 0 where
  pub starts : (k : ℕ) (o : Outline) (u : Label) → slice_get program k ≡ Some (Start o) → unit_of o ≡ Some u → stage u ≡ fences_in (take k program)
  pub steps : (p : Label) (os : List Outline) (i : ℕ) (o : Outline) (u : Label) → may p os → slice_get os i ≡ Some o → unit_of o ≡ Some u → stage u ≡ stage p

-- a unit with this label comes up at this rank: a command starts it, or a unit that comes up may spawn it
pub data Comes (program : List Doing) (may : Label → List Outline → Type 0) : Label → ℕ → Type 0 where
  started : (k : ℕ) (u : Label) (d : Option Label) (ns : List Label) (home : ℕ) → slice_get program k ≡ Some (Start (of.Spawn u d ns home)) → Comes program may u home
  spawned : (p : Label) (rank : ℕ) (os : List Outline) (i : ℕ) (u : Label) (d : Option Label) (ns : List Label) (home : ℕ)
      → Comes program may p rank → may p os → slice_get os i ≡ Some (of.Spawn u d ns home) → Comes program may u home

-- a kind of units that comes before a fence, and to which with each unit its spawner belongs
pub record IsOfFence (may : Label → List Outline → Type 0) (stage : Label → ℕ) (fence : ℕ) (Of : Label → Type 0) : Type 0 where
  pub before : (u : Label) → Of u → stage u < fence
  pub spawner : (p : Label) (os : List Outline) (i : ℕ) (o : Outline) (u : Label) → may p os → slice_get os i ≡ Some o → unit_of o ≡ Some u → Of u → Of p

-- a unit of a kind does what is planned for it
abbrev pub AsPlanned : (Label → List Outline) → (Label → Type 0) → Label → List Outline → Type 0
AsPlanned plan Of p os = (os ≡ plan p) × Of p

-- these are just the units of a kind that come up, each at one rank and with one list of effects: each comes up where the
-- units of the kind do what is planned, and what one of them may do is planned
pub record AreUnits (program : List Doing) (may : Label → List Outline → Type 0) (Of : Label → Type 0) (plan : Label → List Outline) (home : Label → ℕ) (us : List Label) : Type 0 where
  pub apart : Apart us
  pub all : (u : Label) (rank : ℕ) → Comes program may u rank → Of u → Contains us u × (rank ≡ home u)
  pub only : (u : Label) → Contains us u → Comes program (AsPlanned plan Of) u (home u) × Of u
  pub task_effects : (u : Label) (os : List Outline) → Contains us u → may u os → os ≡ plan u

-- one of them is at this rank and has this effect
pub record UnitHas (plan : Label → List Outline) (home : Label → ℕ) (us : List Label) (rank : ℕ) (o : Outline) : Type 0 where
  pub unit : Label
  pub is : Contains us unit
  pub there : home unit ≡ rank
  pub at : ℕ
  pub here : slice_get (plan unit) at ≡ Some o
