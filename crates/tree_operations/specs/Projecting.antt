-- The projection of the model that the code's numbers are.
use Rattle.std.specs.Prelude.{ℕ}
use Rattle.haar_node.specs.declared.Func.{Func}
use Rattle.haar_node.specs.Func.{function_of}
use Rattle.tree_model.specs.Project.{Projection}

abbrev pub projection_of : Func → ℕ → ℕ → Projection
projection_of function level tolerance = record { function = function_of function; level = level; tolerance = tolerance }
