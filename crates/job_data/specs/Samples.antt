-- Commands that the examples begin with.
use Rattle.std.specs.Prelude.{List, [], ◌∷◌, ℕ, codes, pos}
use Rattle.tree_model.specs.Commands.{Command}
use Rattle.tree_model.specs.Commands.Command.{Project, Compress}
use Rattle.tree_model.specs.Functions.Function.{Const}

-- a projection that fits each depth
abbrev pub constant : List ℕ → Command
constant name = Project name (record { function = Const (pos 1); level = 0; tolerance = 0 })

-- the tree `r` is reconstructed, and `c` compressed
abbrev pub two_forms : List Command
two_forms = constant (codes "r") ∷ constant (codes "c") ∷ Compress (codes "c") ∷ []
