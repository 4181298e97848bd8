-- What the units of each operation decide for.
use Rattle.std.specs.Prelude.{ℕ, Bool, true, false, Option, Some, None, ℤ}
use Rattle.tree_key.specs.Keys.{Key}
use Rattle.haar_node.specs.declared.Node.{Node}
use Rattle.haar_base.specs.declared.unit.Side.{Side}
use Rattle.haar_base.specs.declared.unit.Side.TheVariants.{Nothing}
use Rattle.haar_base.specs.declared.unit.Sides.{Sides}
use Rattle.haar_base.specs.declared.unit.Held.{Held}
use Rattle.haar_base.specs.declared.value.Value.{Value}
use Rattle.haar_visits.specs.declared.adding.Factors.{Factors}
use Rattle.haar_visits.specs.declared.printing.Printed.{Printed}
use Rattle.haar_base.specs.declared.decisions.Visit.{Visit}
use Rattle.haar_base.specs.declared.decisions.Combination.{Combination}
use Rattle.haar_base.specs.declared.operation.Operation.{Operation}
use Rattle.haar_base.specs.declared.operation.Operation.TheVariants.{Project, Refine, Coarsen, Compress, Reconstruct, Add, Mul, Inner, Print, Size, Fence}
use Rattle.haar_base.specs.Readings.{one, entry}
use Rattle.haar_base.specs.Decisions.{bad_visit, bad_combination, done}
use Rattle.haar_visits.specs.Projecting.{visit_projected, no_sides}
use Rattle.haar_visits.specs.Refining.{visit_refined}
use Rattle.haar_visits.specs.Coarsening.{visit_coarsened, combine_coarsened}
use Rattle.haar_visits.specs.Compressing.{visit_compressed, combine_compressed}
use Rattle.haar_visits.specs.Reconstructing.{visit_reconstructed}
use Rattle.haar_visits.specs.Adding.{visit_added}
use Rattle.haar_visits.specs.Multiplying.{visit_multiplied}
use Rattle.haar_visits.specs.InnerProducts.{visit_inner, combine_inner, both_entries}
use Rattle.haar_visits.specs.Printing.{visit_printed, combine_printed}

abbrev pub root_sides : Operation → Option Sides
root_sides (Project function level tolerance) = Some no_sides
root_sides (Refine level source) = Some (one entry)
root_sides (Coarsen source) = Some (one entry)
root_sides (Compress source) = Some (one entry)
root_sides (Reconstruct source) = Some (one entry)
root_sides (Add left_factor left right_factor right) = Some both_entries
root_sides (Mul left right) = Some both_entries
root_sides (Inner left right) = Some both_entries
root_sides (Print source form name) = Some (one entry)
root_sides (Size source) = None
root_sides Fence = None

abbrev pub factors : ℤ → ℤ → Factors
factors left right = record { left = left; right = right }

-- a down unit, by the cells of the first and of the second tree
abbrev pub visit : ℕ → Operation → Key → Sides → Option Node → Option Node → Visit
visit depth (Project function level tolerance) key sides first second = visit_projected depth function level tolerance key
visit depth (Refine level source) key sides first second = visit_refined depth level key sides.first first
visit depth (Coarsen source) key sides first second = visit_coarsened depth key sides.first first
visit depth (Compress source) key sides first second = visit_compressed depth key sides.first first
visit depth (Reconstruct source) key sides first second = visit_reconstructed depth key sides.first first
visit depth (Add left_factor left right_factor right) key sides first second = visit_added depth (factors left_factor right_factor) key sides first second
visit depth (Mul left right) key sides first second = visit_multiplied depth key sides first second
visit depth (Inner left right) key sides first second = visit_inner depth key sides first second
visit depth (Print source form name) key sides first second = visit_printed depth (record { form = form; name = name }) key sides.first first
visit depth (Size source) key sides first second = bad_visit false
visit depth Fence key sides first second = bad_visit false

-- an up unit, by what the children gave
abbrev pub combine : ℕ → Operation → Key → Held → Value → Value → Combination
combine depth (Project function level tolerance) key held left right = done left right
combine depth (Refine level source) key held left right = done left right
combine depth (Coarsen source) key held left right = combine_coarsened left right
combine depth (Compress source) key held left right = combine_compressed key left right
combine depth (Reconstruct source) key held left right = done left right
combine depth (Add left_factor l right_factor r) key held left right = done left right
combine depth (Mul l r) key held left right = done left right
combine depth (Inner l r) key held left right = combine_inner depth key held left right
combine depth (Print source form name) key held left right = combine_printed (record { form = form; name = name }) key held left right
combine depth (Size source) key held left right = bad_combination false
combine depth Fence key held left right = bad_combination false
