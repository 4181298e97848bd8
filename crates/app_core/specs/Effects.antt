-- What is right of an effect, of its own.
use Rattle.std.specs.Prelude.{◌≡◌, ◌≢◌, List, [], ⊤}
use Rattle.app_core.specs.declared.label.Label.{Label}
use Rattle.app_core.specs.declared.label.CellName.{CellName}
use Rattle.app_core.specs.declared.effect.Effect.{Effect}
use Rattle.app_core.specs.declared.effect.Effect.TheVariants.{Spawn, SpawnNeeding, Give, Put, Erase}

-- a give has a right value, a put has a right cell, and a spawned unit is one of the application
abbrev pub IsRightEffect : {U V C : Type 0} → (Label → V → Type 0) → (CellName → C → Type 0) → (U → Type 0) → Effect U V C → Type 0
IsRightEffect value cell unit (Spawn u) = unit u
IsRightEffect value cell unit (SpawnNeeding u ns) = unit u
IsRightEffect value cell unit (Give l v) = value l v
IsRightEffect value cell unit (Put n c) = cell n c
IsRightEffect value cell unit (Erase n) = ⊤

-- a unit is spawned with just its needs, in their order, and without where it has none
abbrev pub IsSpawnedWithNeeds : {U V C : Type 0} → (U → List Label) → Effect U V C → Type 0
IsSpawnedWithNeeds needs (Spawn u) = needs u ≡ []
IsSpawnedWithNeeds needs (SpawnNeeding u ns) = (needs u ≡ ns) × (ns ≢ [])
IsSpawnedWithNeeds needs (Give l v) = ⊤
IsSpawnedWithNeeds needs (Put n c) = ⊤
IsSpawnedWithNeeds needs (Erase n) = ⊤

-- the effect spawns a unit
abbrev pub IsSpawn : {U V C : Type 0} → Effect U V C → Type 0
IsSpawn (Spawn u) = ⊤
IsSpawn (SpawnNeeding u ns) = ⊤
IsSpawn (Give l v) = ⊥
IsSpawn (Put n c) = ⊥
IsSpawn (Erase n) = ⊥
