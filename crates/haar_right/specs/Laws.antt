-- On right inputs each unit decides rightly, before the first command that overflows, at it, and after it.
use Rattle.std.specs.Prelude.{ℕ, false, true, Option, Some, None, ⊤}
use Rattle.tree_key.specs.Keys.{Key, child}
use Rattle.haar_node.specs.declared.Node.{Node}
use Rattle.haar_base.specs.declared.operation.Operation.{Operation}
use Rattle.haar_base.specs.declared.unit.Side.{Side}
use Rattle.haar_base.specs.declared.unit.Side.TheVariants.{Nothing, Entry, Below}
use Rattle.haar_base.specs.declared.unit.Down.{Down as DownUnit}
use Rattle.haar_base.specs.declared.unit.Up.{Up as UpUnit}
use Rattle.haar_base.specs.declared.value.Value.{Value}
use Rattle.haar_base.specs.Operations.{first_source, second_source}
use Rattle.haar_visits.specs.Visits.{visit, combine}
use Rattle.haar_meaning.specs.PlannedJobs.{PlannedJob, IsPlannedJob}
use Rattle.haar_meaning.specs.RightCells.{IsStored}
use Rattle.haar_meaning.specs.JobUnits.{IsDownUnit, IsUpUnit}
use Rattle.haar_meaning.specs.RightDecisions.{IsRightGive, IsRightVisit, IsRightCombination}

-- a cell is there, and it is right for an entry
abbrev pub IsRightEntry : PlannedJob → ℕ → Key → Option Node → Type 0
IsRightEntry job version k None = ⊥
IsRightEntry job version k (Some cell) = IsStored job version k cell

-- what a down unit reads on a side is right
abbrev pub IsRightRead : PlannedJob → ℕ → Key → Side → Option Node → Type 0
IsRightRead job version k Nothing cell = ⊤
IsRightRead job version k (Entry known) cell = IsRightEntry job version k cell
IsRightRead job version k (Below sum) cell = ⊤

abbrev pub IsVisitedRightly : Operation → Type 0
IsVisitedRightly operation =
    (job : PlannedJob) (u : DownUnit) (first second : Option Node) → IsPlannedJob job → IsDownUnit job operation u
    → IsRightRead job (first_source operation) u.key u.first first → IsRightRead job (second_source operation) u.key u.second second
    → IsRightVisit job u.command u.key (visit job.depth operation u.key (record { first = u.first; second = u.second }) first second)

abbrev pub IsCombinedRightly : Operation → Type 0
IsCombinedRightly operation =
    (job : PlannedJob) (u : UpUnit) (left right : Value) → IsPlannedJob job → IsUpUnit job operation u
    → IsRightGive job u.command (child u.key false) left → IsRightGive job u.command (child u.key true) right
    → IsRightCombination job u.command u.key (combine job.depth operation u.key u.held left right)

abbrev pub VisitsAreRight : Type 0
VisitsAreRight = (operation : Operation) → IsVisitedRightly operation

abbrev pub CombinationsAreRight : Type 0
CombinationsAreRight = (operation : Operation) → IsCombinedRightly operation
