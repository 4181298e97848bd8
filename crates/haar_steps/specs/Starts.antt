-- The starts of commands, and the futures of their results.
use Rattle.std.specs.Prelude.{ℕ, zero, suc, List, [], ◌∷◌, ◌++◌, map, Option, Some, None}
use Rattle.app_core.specs.declared.Label.{Label}
use Rattle.app_core.specs.declared.CommandKind.{CommandKind}
use Rattle.app_core.specs.declared.CommandKind.TheVariants as is
use Rattle.app_core.specs.declared.Effect.TheVariants.{Spawn, SpawnNeeding}
use Rattle.tree_key.specs.Keys.{root}
use Rattle.haar_units.specs.Jobs.{kind_of}
use Rattle.haar_units.specs.Units.{key_future, count_futures}
use Rattle.haar_base.specs.declared.unit.Sides.{Sides}
use Rattle.haar_base.specs.declared.operation.Operation.{Operation}
use Rattle.haar_base.specs.declared.operation.Operation.TheVariants.{Project, Refine, Coarsen, Compress, Reconstruct, Add, Mul, Inner, Print, Size, Fence}
use Rattle.haar_base.specs.declared.unit.Unit.TheVariants as unit
use Rattle.haar_steps.specs.Effects.{HaarEffect, spawn_down}
use Rattle.haar_base.specs.Operations.{operation_at, word_of}
use Rattle.haar_visits.specs.Visits.{root_sides}

abbrev pub kind_of_operation : Operation → CommandKind
kind_of_operation operation = kind_of (word_of operation)

abbrev pub kinds_of : List Operation → List CommandKind
kinds_of operations = map kind_of_operation operations

-- the units that count the entries of each rank from a first one on
abbrev pub spawn_counts : ℕ → ℕ → ℕ → List HaarEffect
spawn_counts command first zero = []
spawn_counts command first (suc more) = Spawn (unit.Count command first) ∷ spawn_counts command (suc first) more

-- and the one that adds what they give
abbrev pub size_starts : ℕ → ℕ → List HaarEffect
size_starts command ranks = spawn_counts command 0 ranks ++ SpawnNeeding (unit.Total command ranks) (count_futures command 0 ranks) ∷ []

abbrev pub start_at_root : ℕ → Option Sides → List HaarEffect
start_at_root command None = []
start_at_root command (Some sides) = spawn_down command root sides ∷ []

abbrev pub starts_by : ℕ → ℕ → Operation → List HaarEffect
starts_by command ranks (Size source) = size_starts command ranks
starts_by command ranks (Project function level tolerance) = start_at_root command (root_sides (Project function level tolerance))
starts_by command ranks (Refine level source) = start_at_root command (root_sides (Refine level source))
starts_by command ranks (Coarsen source) = start_at_root command (root_sides (Coarsen source))
starts_by command ranks (Compress source) = start_at_root command (root_sides (Compress source))
starts_by command ranks (Reconstruct source) = start_at_root command (root_sides (Reconstruct source))
starts_by command ranks (Add left_factor left right_factor right) = start_at_root command (root_sides (Add left_factor left right_factor right))
starts_by command ranks (Mul left right) = start_at_root command (root_sides (Mul left right))
starts_by command ranks (Inner left right) = start_at_root command (root_sides (Inner left right))
starts_by command ranks (Print source form name) = start_at_root command (root_sides (Print source form name))
starts_by command ranks Fence = []

abbrev pub starts_if : ℕ → ℕ → Option Operation → List HaarEffect
starts_if command ranks None = []
starts_if command ranks (Some operation) = starts_by command ranks operation

abbrev pub starting_of : List Operation → ℕ → ℕ → List HaarEffect
starting_of operations command ranks = starts_if command ranks (operation_at operations command)

-- the future of a command's result, which a work command has

abbrev pub result_by : ℕ → CommandKind → Option Label
result_by command is.Work = Some (key_future command 1)
result_by command is.Fence = None

abbrev pub result_if : ℕ → Option Operation → Option Label
result_if command None = None
result_if command (Some operation) = result_by command (kind_of_operation operation)

abbrev pub result_of : List Operation → ℕ → Option Label
result_of operations command = result_if command (operation_at operations command)
