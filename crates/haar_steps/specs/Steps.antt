-- The step of a unit: it decides by its operation and its inputs, and then has the effects of that.
use Rattle.std.specs.Prelude.{ℕ, zero, suc, Bool, ◌==◌, nat_le, nat_lt, if◌then◌else◌, List, [], ◌∷◌, Option, Some, None, slice_get}
use Rattle.app_core.specs.Given.{Given}
use Rattle.app_core.specs.declared.Effect.TheVariants.{Give, Erase}
use Rattle.tree_key.specs.Keys.{Key, place_of}
use Rattle.haar_node.specs.declared.Node.{Node}
use Rattle.haar_units.specs.Units.{key_future, count_future, entry}
use Rattle.haar_base.specs.declared.unit.Side.{Side}
use Rattle.haar_base.specs.declared.unit.Side.TheVariants.{Nothing, Entry, Below}
use Rattle.haar_base.specs.declared.unit.Sides.{Sides}
use Rattle.haar_base.specs.declared.operation.Operation.{Operation}
use Rattle.haar_base.specs.declared.operation.Operation.TheVariants.{Fence}
use Rattle.haar_base.specs.declared.unit.Down.{Down as DownUnit}
use Rattle.haar_base.specs.declared.unit.Up.{Up as UpUnit}
use Rattle.haar_base.specs.declared.unit.Unit.{Unit}
use Rattle.haar_base.specs.declared.unit.Unit.TheVariants.{Down, Up, Clear, Count, Total}
use Rattle.haar_base.specs.declared.value.Value.{Value}
use Rattle.haar_base.specs.declared.value.Value.TheVariants as value
use Rattle.haar_base.specs.declared.decisions.Visit.{Visit}
use Rattle.haar_base.specs.declared.decisions.Combination.{Combination}
use Rattle.haar_steps.specs.Effects.{HaarEffect, visit_effects, combination_effects}
use Rattle.haar_base.specs.Operations.{operation_at}
use Rattle.haar_visits.specs.Sizing.{total}
use Rattle.haar_visits.specs.Visits.{visit, combine}

-- what a command does at a key that there is; elsewhere nothing
abbrev pub known_by : Bool → Option Operation → Operation
known_by there None = Fence
known_by there (Some operation) = if there then operation else Fence

-- the cell of the second tree comes after that of the first, where that one is read
abbrev pub second_cell : Side → List Node → Option Node
second_cell Nothing cells = slice_get cells 0
second_cell (Entry known) cells = slice_get cells 1
second_cell (Below sum) cells = slice_get cells 0

abbrev pub first_cell : Side → List Node → Option Node
first_cell Nothing cells = None
first_cell (Entry known) cells = slice_get cells 0
first_cell (Below sum) cells = None

abbrev pub visit_of : ℕ → List Operation → DownUnit → List Node → Visit
visit_of depth operations u cells =
    visit depth (known_by (nat_le u.key.level depth) (operation_at operations u.command)) u.key (record { first = u.first; second = u.second }) (first_cell u.first cells) (second_cell u.first cells)

-- the two values that an up unit needs
abbrev pub pair_of : List Value → Value × Value
pair_of (left ∷ right ∷ []) = (left, right)
pair_of _ = (value.Bad, value.Bad)

abbrev pub combination_of : ℕ → List Operation → UpUnit → List Value → Combination
combination_of depth operations u values = combine depth (known_by (nat_lt u.key.level depth) (operation_at operations u.command)) u.key u.held (pair_of values).0 (pair_of values).1

abbrev pub step_of : ℕ → List Operation → Unit → Given Value Node → List HaarEffect
step_of depth operations (Down u) given = visit_effects u.command u.key (visit_of depth operations u given.cells)
step_of depth operations (Up u) given = combination_effects u.command u.key (combination_of depth operations u given.values)
step_of depth operations (Clear command key) given = Erase (entry command (place_of key)) ∷ []
step_of depth operations (Count command rank) given = Give (count_future command rank) (value.Count given.size) ∷ []
step_of depth operations (Total command ranks) given = Give (key_future command 1) (total given.values) ∷ []
