-- Units of `project`.
use Rattle.std.specs.Prelude.{ℕ, Bool, true, false, if◌then◌else◌, Some, ℤ, pos, ◌*ℤ◌}
use Rattle.tree_key.specs.Keys.{Key, width, first_cell}
use Rattle.tree_model.specs.Functions.{value_at}
use Rattle.tree_model.specs.Project.{Projection, is_split}
use Rattle.haar_node.specs.declared.Func.{Func}
use Rattle.haar_node.specs.Func.{function_of}
use Rattle.haar_node.specs.declared.Node.TheVariants as node
use Rattle.haar_base.specs.declared.unit.Side.TheVariants.{Nothing}
use Rattle.haar_base.specs.declared.unit.Sides.{Sides}
use Rattle.haar_base.specs.declared.value.Value.TheVariants.{Done}
use Rattle.haar_base.specs.declared.decisions.Visit.{Visit}
use Rattle.haar_base.specs.declared.decisions.Visit.TheVariants as visit
use Rattle.haar_base.specs.Readings.{nothing_held}

abbrev pub projection_of : Func → ℕ → ℕ → Projection
projection_of function level tolerance = record { function = function_of function; level = level; tolerance = tolerance }

abbrev pub no_sides : Sides
no_sides = record { first = Nothing; second = Nothing }

-- the sum over the box of a leaf
abbrev pub projected_sum : ℕ → Func → Key → ℤ
projected_sum depth function key = pos (width depth key) *ℤ value_at (function_of function) (first_cell depth key)

abbrev pub visit_by : Bool → ℤ → Visit
visit_by true sum = visit.Split (Some node.Branch) no_sides no_sides nothing_held
visit_by false sum = visit.Give (Some (node.Leaf sum)) Done

-- a key is split, or becomes a leaf
abbrev pub visit_projected : ℕ → Func → ℕ → ℕ → Key → Visit
visit_projected depth function level tolerance key = visit_by (is_split depth (projection_of function level tolerance) key) (projected_sum depth function key)
