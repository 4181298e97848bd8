-- Effects without their units, values and cells, and what they create, give and touch.
use Rattle.std.specs.Prelude.{◌≡◌, ◌≢◌, ℕ, List, [], ◌∷◌, ◌++◌, Bool, false, ◌==◌, ◌&&◌, ◌||◌, Option, Some, None, ⊤, map, count_by, Contains}
use Rattle.std.specs.List.{flat_map, list_any}
use Rattle.std.specs.Option.{option_to_list}
use Rattle.app_core.specs.declared.label.Label.{Label}
use Rattle.app_core.specs.declared.label.CellName.{CellName}
use Rattle.app_core.specs.declared.outline.Outline.{Outline}
use Rattle.app_core.specs.declared.outline.Outline.TheVariants as of
use Rattle.app_core.specs.declared.effect.Effect.{Effect}
use Rattle.app_core.specs.declared.effect.Effect.TheVariants.{Spawn, SpawnNeeding, Give, Put, Erase}

-- what is left of an effect, by the labels, dues and homes of units and the homes of futures
abbrev pub outline : {U V C : Type 0} → (U → Label) → (U → Option Label) → (U → ℕ) → (Label → ℕ) → Effect U V C → Outline
outline label due home kept (Spawn u) = of.Spawn (label u) (due u) [] (home u)
outline label due home kept (SpawnNeeding u ns) = of.Spawn (label u) (due u) ns (home u)
outline label due home kept (Give l v) = of.Give l (kept l)
outline label due home kept (Put n c) = of.Put n
outline label due home kept (Erase n) = of.Erase n

-- what is left of each of them, where there are so many ranks
abbrev pub outlines : {U V C : Type 0} → (U → Label) → (U → Option Label) → (U → ℕ → ℕ) → (Label → ℕ → ℕ) → ℕ → List (Effect U V C) → List Outline
outlines label due home kept ranks es = map (outline label due (λ u. home u ranks) (λ l. kept l ranks)) es

-- whether two labels are equal
abbrev pub same_label : Label → Label → Bool
same_label a b = (a.command == b.command) && (a.part == b.part) && (a.place == b.place)

-- whether this is the due
abbrev pub is_due : Label → Option Label → Bool
is_due l None = false
is_due l (Some m) = same_label l m

-- whether a unit is spawned with this due
abbrev pub has_due : Label → Outline → Bool
has_due l (of.Spawn unit due needs home) = is_due l due
has_due l (of.Give future home) = false
has_due l (of.Put name) = false
has_due l (of.Erase name) = false

-- whether a unit is spawned that needs this future
abbrev pub has_need : Label → Outline → Bool
has_need l (of.Spawn unit due needs home) = list_any (λ m. same_label l m) needs
has_need l (of.Give future home) = false
has_need l (of.Put name) = false
has_need l (of.Erase name) = false

-- whether this future is given
abbrev pub gives : Label → Outline → Bool
gives l (of.Spawn unit due needs home) = false
gives l (of.Give future home) = same_label l future
gives l (of.Put name) = false
gives l (of.Erase name) = false

-- exactly one unit is spawned with this due
abbrev pub IsDueOnce : Label → List Outline → Type 0
IsDueOnce l os = count_by (has_due l) os ≡ 1

-- exactly one unit is spawned that needs this future
abbrev pub IsNeededOnce : Label → List Outline → Type 0
IsNeededOnce l os = count_by (has_need l) os ≡ 1

-- no unit is spawned that needs this future
abbrev pub IsNeededNever : Label → List Outline → Type 0
IsNeededNever l os = count_by (has_need l) os ≡ 0

-- exactly one outline sees to this future: it gives it, or spawns a unit with this due
abbrev pub IsSeenToOnce : Label → List Outline → Type 0
IsSeenToOnce l os = count_by (λ o. has_due l o || gives l o) os ≡ 1

-- a give is of this due
abbrev pub GivesOnly : Option Label → Outline → Type 0
GivesOnly due (of.Spawn unit d needs home) = ⊤
GivesOnly due (of.Give future home) = due ≡ Some future
GivesOnly due (of.Put name) = ⊤
GivesOnly due (of.Erase name) = ⊤

-- a unit that is spawned with needs runs at this rank
abbrev pub NeedingRunsAt : ℕ → Outline → Type 0
NeedingRunsAt rank (of.Spawn unit due needs home) = needs ≢ [] → home ≡ rank
NeedingRunsAt rank (of.Give future home) = ⊤
NeedingRunsAt rank (of.Put name) = ⊤
NeedingRunsAt rank (of.Erase name) = ⊤

-- the futures that are named in the due or the needs of a unit that is spawned
abbrev pub named : Outline → List Label
named (of.Spawn unit due needs home) = option_to_list due ++ needs
named (of.Give future home) = []
named (of.Put name) = []
named (of.Erase name) = []

-- one of them spawns a unit with this future as its due or a need
abbrev pub Names : List Outline → Label → Type 0
Names os l = Contains (flat_map named os) l

-- the entry that is put or erased
abbrev pub touched : Outline → List CellName
touched (of.Spawn unit due needs home) = []
touched (of.Give future home) = []
touched (of.Put name) = name ∷ []
touched (of.Erase name) = name ∷ []

-- one of them puts or erases this entry
abbrev pub Touches : List Outline → CellName → Type 0
Touches os n = Contains (flat_map touched os) n

-- this future, if they name it, is the due of exactly one unit that they spawn
abbrev pub IsDueOnceIfNamed : Label → List Outline → Type 0
IsDueOnceIfNamed l os = Names os l → IsDueOnce l os

-- this future, if they create it, is the due of exactly one unit that they spawn; what they name is created, but for the
-- spawner's own due
abbrev pub IsDueOnceIfCreated : Option Label → Label → List Outline → Type 0
IsDueOnceIfCreated own l os = Names os l → own ≢ Some l → IsDueOnce l os

-- this future, if they create it, is needed by exactly one unit that they spawn
abbrev pub IsNeededOnceIfCreated : Option Label → Label → List Outline → Type 0
IsNeededOnceIfCreated own l os = Names os l → own ≢ Some l → IsNeededOnce l os
