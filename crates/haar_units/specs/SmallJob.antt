-- A small job for examples that were computed by hand. A tree of the keys 1, 2, 3, 6 and 7 is projected; it is coarsened, which
-- erases 6 and 7; after a fence its keys are counted. There are two ranks, and rank 1 owns the keys 2 and 7.
use Rattle.std.specs.Prelude.{ℕ, Bool, List, ◌&&◌, ◌||◌, nat_lt, ◌==◌, if◌then◌else◌, [], ◌∷◌, pos, codes}
use Rattle.owner_map.specs.declared.map.OwnerMap.TheVariants.{Block}
use Rattle.tree_model.specs.Commands.{Command}
use Rattle.tree_model.specs.Functions.Function.{Const}
use Rattle.tree_model.specs.Totals.{Distribution}
use Rattle.haar_units.specs.Distributions.{by_map}
use Rattle.haar_units.specs.Drops.{Readers}
use Rattle.haar_units.specs.Jobs.{Operation, DistributedJob}
use Rattle.haar_units.specs.Jobs.Operation.{Project, Refine, Coarsen, Compress, Reconstruct, Add, Mul, Inner, Print, Size, Fence}
use Rattle.haar_units.specs.Traversals.{Traversal}

abbrev pub small_job : DistributedJob
small_job = record { operations = Project ∷ Coarsen ∷ Fence ∷ Size ∷ []; ranks = 2; owner = λ place. if (place == 2) || (place == 7) then 1 else 0 }

-- the keys of the tree that is projected
abbrev pub is_key : ℕ → Bool
is_key place = (nat_lt 0 place && nat_lt place 4) || ((place == 6) || (place == 7))

abbrev pub small_traversal : Traversal
small_traversal = record { visits = λ command place. nat_lt command 3 && is_key place; erases = λ command place. (command == 2) && ((place == 6) || (place == 7)) }

-- each operation, in the order of their definition
abbrev pub all_operations : List Operation
all_operations = Project ∷ Refine ∷ Coarsen ∷ Compress ∷ Reconstruct ∷ Add ∷ Mul ∷ Inner ∷ Print ∷ Size ∷ Fence ∷ []

-- `coarsen` reads the projected tree, and `size` the coarsened one
abbrev pub small_readers : Readers
small_readers command version = ((command == 2) && (version == 1)) || ((command == 4) && (version == 2))

-- the same commands as a job of the model, on a tree of all seven keys of depth 2 with one value, and two ranks
abbrev pub seven_keys : List Command
seven_keys =
    Command.Project (codes "f") (record { function = Const (pos 5); level = 2; tolerance = 0 }) ∷ Command.Coarsen (codes "f") ∷ Command.Fence
    ∷ Command.Size (codes "f") ∷ []

abbrev pub two_blocks : Distribution
two_blocks = by_map Block 2

-- a command of each kind, in the order of the operations
abbrev pub all_commands : List Command
all_commands =
    Command.Project (codes "f") (record { function = Const (pos 5); level = 2; tolerance = 0 }) ∷ Command.Refine (codes "f") 2 ∷ Command.Coarsen (codes "f")
    ∷ Command.Compress (codes "f") ∷ Command.Reconstruct (codes "f") ∷ Command.Add (codes "f") (pos 1) (codes "f") (pos 1) (codes "f") ∷ Command.Mul (codes "f") (codes "f") (codes "f")
    ∷ Command.Inner (codes "f") (codes "f") ∷ Command.Print (codes "f") ∷ Command.Size (codes "f") ∷ Command.Fence ∷ []
