-- Laws of an application that hold of the form of units, whatever they are given.
use Rattle.std.specs.Prelude.{◌≡◌, ℕ, ◌≤◌, ◌<◌, List, length, Contains}
use Rattle.std.specs.List.{AllByRecursion}
use Rattle.app_core.specs.Given.{Given}
use Rattle.app_core.specs.Commands.{IsRankCount}
use Rattle.app_core.specs.Effects.{IsSpawnedWithNeeds}
use Rattle.app_core.specs.Outlines.{NeedingRunsAt, Touches}
use Rattle.app_core.specs.declared.Label.{Label}
use Rattle.app_core.specs.declared.CellName.{CellName}
use Rattle.owner_map.specs.declared.OwnerMap.{OwnerMap}
use Rattle.haar_node.specs.declared.Node.{Node}
use Rattle.haar_units.specs.Distributions.{by_map, place_owner}
use Rattle.haar_units.specs.StepLaws.{KeepsStepLaws}
use Rattle.haar_base.specs.declared.unit.Unit.{Unit}
use Rattle.haar_base.specs.declared.value.Value.{Value}
use Rattle.haar_base.specs.declared.operation.Operation.{Operation}
use Rattle.haar_base.specs.Units.{label_of, due_of, needs_of, home_of, kept_at, reads_of, job_of}
use Rattle.haar_steps.specs.Steps.{step_of}
use Rattle.haar_steps.specs.Forms.{IsOfForm, told}

-- a unit runs at a rank that there is
abbrev pub HomesAreRanks : Type 0
HomesAreRanks = (owners : OwnerMap) (u : Unit) (ranks : ℕ) → 1 ≤ ranks → home_of owners u ranks < ranks

-- units with one label have one due
abbrev pub LabelsTellDues : Type 0
LabelsTellDues = (u other : Unit) → label_of u ≡ label_of other → due_of u ≡ due_of other

-- a unit reads at most two entries, and a step has at most four effects
abbrev pub ReadsAreFew : Type 0
ReadsAreFew = (operations : List Operation) (u : Unit) → length (reads_of operations u) ≤ 2

abbrev pub StepsAreShort : Type 0
StepsAreShort = (depth : ℕ) (operations : List Operation) (u : Unit) (given : Given Value Node) → length (step_of depth operations u given) ≤ 4

-- a step spawns each unit with just its needs, in their order
abbrev pub SpawnsHaveTheirNeeds : Type 0
SpawnsHaveTheirNeeds = (depth : ℕ) (operations : List Operation) (u : Unit) (given : Given Value Node) → AllByRecursion (IsSpawnedWithNeeds needs_of) (step_of depth operations u given)

-- the futures that a unit needs, the entries that it reads, puts and erases, and the units with needs that it spawns are at its home
pub record StaysAtHome (depth : ℕ) (operations : List Operation) (owners : OwnerMap) (ranks : ℕ) (u : Unit) (given : Given Value Node) : Type 0 where
  pub needs : (future : Label) → Contains (needs_of u) future → kept_at owners future ranks ≡ home_of owners u ranks
  pub reads : (n : CellName) → Contains (reads_of operations u) n → place_owner (by_map owners ranks) n.place ≡ home_of owners u ranks
  pub writes : (n : CellName) → Touches (told owners ranks (step_of depth operations u given)) n → place_owner (by_map owners ranks) n.place ≡ home_of owners u ranks
  pub spawns : AllByRecursion (NeedingRunsAt (home_of owners u ranks)) (told owners ranks (step_of depth operations u given))

abbrev pub UnitsStayAtHome : Type 0
UnitsStayAtHome =
    (depth : ℕ) (operations : List Operation) (owners : OwnerMap) (made ranks : ℕ) (u : Unit) (given : Given Value Node)
    → depth ≤ 16 → IsRankCount ranks → IsOfForm depth operations made u → StaysAtHome depth operations owners ranks u given

-- a step keeps the laws on dues, needs and gives
abbrev pub StepsKeepTheirLaws : Type 0
StepsKeepTheirLaws =
    (depth : ℕ) (operations : List Operation) (owners : OwnerMap) (made ranks : ℕ) (u : Unit) (given : Given Value Node)
    → depth ≤ 16 → IsRankCount ranks → IsOfForm depth operations made u → KeepsStepLaws (job_of operations owners ranks) (label_of u) (told owners ranks (step_of depth operations u given))

-- units with one label have one home
abbrev pub LabelsTellHomes : Type 0
LabelsTellHomes =
    (depth : ℕ) (operations : List Operation) (owners : OwnerMap) (made ranks : ℕ) (u other : Unit)
    → depth ≤ 16 → IsRankCount ranks → IsOfForm depth operations made u → IsOfForm depth operations made other → label_of u ≡ label_of other → home_of owners u ranks ≡ home_of owners other ranks
