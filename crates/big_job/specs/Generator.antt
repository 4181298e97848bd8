-- The generated jobs, one for each number of 32 bits.
use Rattle.std.specs.Prelude.{ℕ, ◌%◌, List, [], ◌∷◌, codes, pos, negsuc}
use Rattle.tree_model.specs.Commands.{Command}
use Rattle.tree_model.specs.Commands.Command.{Project, Coarsen, Compress, Reconstruct, Add, Mul, Inner, Size, Fence}
use Rattle.tree_model.specs.Functions.{Function}
use Rattle.tree_model.specs.Functions.Function.{Hash, Ramp, Box}
use Rattle.tree_model.specs.Jobs.{JobData}

-- the commands of a generated job, from its three functions: they are projected; their trees are compressed, `p` is a sum of
-- two of them, and two inner products are printed; `q` is the product of `p` and `h`; and `q` is coarsened, and its keys are
-- counted
abbrev pub commands_of : Function → Function → Function → List Command
commands_of f g h =
    Project (codes "f") (record { function = f; level = 4; tolerance = 500 })
    ∷ Project (codes "g") (record { function = g; level = 2; tolerance = 16 })
    ∷ Project (codes "h") (record { function = h; level = 6; tolerance = 0 })
    ∷ Fence
    ∷ Compress (codes "f")
    ∷ Compress (codes "g")
    ∷ Compress (codes "h")
    ∷ Add (codes "p") (pos 2) (codes "f") (negsuc 0) (codes "g")
    ∷ Inner (codes "f") (codes "g")
    ∷ Inner (codes "p") (codes "h")
    ∷ Fence
    ∷ Reconstruct (codes "p")
    ∷ Reconstruct (codes "h")
    ∷ Mul (codes "q") (codes "p") (codes "h")
    ∷ Fence
    ∷ Coarsen (codes "q")
    ∷ Fence
    ∷ Size (codes "q")
    ∷ []

-- the job of a number: `f` is a hash with the number as its seed, `g` a ramp from the number modulo 1000, and `h` is 7 from
-- the cell of the number modulo 4096 on
abbrev pub big_job : ℕ → JobData
big_job number = record {
  depth = 12;
  commands = commands_of (Hash number 1000) (Ramp (pos (number % 1000)) (pos 1)) (Box (number % 4096) 4096 (pos 7));
}
