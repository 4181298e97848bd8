-- The right decisions of units.
use Rattle.std.specs.Prelude.{ℕ, Option, IfSome, true, false}
use Rattle.tree_key.specs.Keys.{Key, child, place_of}
use Rattle.haar_node.specs.declared.Node.{Node}
use Rattle.haar_node.specs.declared.Node.TheVariants as node
use Rattle.haar_units.specs.Units.{key_future, entry}
use Rattle.haar_base.specs.declared.unit.Sides.{Sides}
use Rattle.haar_base.specs.declared.unit.Unit.{Unit}
use Rattle.haar_base.specs.declared.unit.Unit.TheVariants as unit
use Rattle.haar_base.specs.declared.value.Value.{Value}
use Rattle.haar_base.specs.declared.value.Value.TheVariants as value
use Rattle.haar_base.specs.declared.decisions.Visit.{Visit}
use Rattle.haar_base.specs.declared.decisions.Visit.TheVariants as visit
use Rattle.haar_base.specs.declared.decisions.Combination.{Combination}
use Rattle.haar_base.specs.declared.decisions.Combination.TheVariants as combination
use Rattle.haar_meaning.specs.PlannedJobs.{PlannedJob}
use Rattle.haar_meaning.specs.RightValues.{IsRightValue}
use Rattle.haar_meaning.specs.RightCells.{IsRightCell}
use Rattle.haar_meaning.specs.JobUnits.{IsUnit}

-- the node that is put is a right cell, where one is put
abbrev pub IsRightPut : PlannedJob → ℕ → Key → Option Node → Type 0
IsRightPut job command k n = IfSome n (λ cell. IsRightCell job (entry command (place_of k)) cell)

abbrev pub IsRightGive : PlannedJob → ℕ → Key → Value → Type 0
IsRightGive job command k v = IsRightValue job (key_future command (place_of k)) v

abbrev pub down_to : ℕ → Key → Sides → Unit
down_to command k sides = unit.Down (record { command = command; key = k; first = sides.first; second = sides.second })

-- what a down unit decides for: what it puts and gives is right, and the units of both children and of the key itself are units
-- of the job
abbrev pub IsRightVisit : PlannedJob → ℕ → Key → Visit → Type 0
IsRightVisit job command k (visit.Give n v) = IsRightPut job command k n × IsRightGive job command k v
IsRightVisit job command k (visit.Split n left right held) =
    IsRightPut job command k n
    × IsUnit job (down_to command (child k false) left)
    × IsUnit job (down_to command (child k true) right)
    × IsUnit job (unit.Up (record { command = command; key = k; held = held }))

-- what an up unit decides for
abbrev pub IsRightCombination : PlannedJob → ℕ → Key → Combination → Type 0
IsRightCombination job command k (combination.Give n v) = IsRightPut job command k n × IsRightGive job command k v
IsRightCombination job command k (combination.Merge sum) =
    IsRightCell job (entry command (place_of k)) (node.Leaf sum)
    × IsUnit job (unit.Clear command (child k false))
    × IsUnit job (unit.Clear command (child k true))
    × IsRightGive job command k (value.Sum sum)
