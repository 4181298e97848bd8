-- The versions of trees that the commands of a job write, and what they read.
use Rattle.std.specs.Prelude.{ℕ, Bool, true, false, List, Option, Some, None, fold, if◌then◌else◌}
use Rattle.std.specs.Option.{option_map, option_map_or}
use Rattle.tree_model.specs.Commands.{Command}
use Rattle.tree_model.specs.Signatures.{writes}
use Rattle.tree_model.specs.Commands.Command.{Project, Refine, Coarsen, Compress, Reconstruct, Add, Mul}
use Rattle.tree_model.specs.Nodes.{Form}
use Rattle.tree_model.specs.Nodes.Form.{Reconstructed, Compressed}
use Rattle.tree_model.specs.Operations.{refined, coarsened, weighted_sum, product, overflows}
use Rattle.tree_model.specs.Project.{projected}
use Rattle.tree_model.specs.Trees.{Tree}

-- a tree, and the form that it is kept in
pub record Version : Type 0 where
  pub form : Form
  pub tree : Tree

-- what each name stands for: the version that was written last, or nothing
abbrev pub Versions : Type 0
Versions = List ℕ → Option Version

abbrev pub no_versions : Versions
no_versions name = None

-- whether two forms are the same
abbrev pub same_form : Form → Form → Bool
same_form Reconstructed Reconstructed = true
same_form Reconstructed Compressed = false
same_form Compressed Reconstructed = false
same_form Compressed Compressed = true

-- the tree that a command reads, where it is there in the form that the command needs
abbrev pub tree_in : Form → Option Version → Option Tree
tree_in form None = None
tree_in form (Some version) = if same_form form version.form then Some version.tree else None

abbrev pub read : Versions → Form → List ℕ → Option Tree
read versions form name = tree_in form (versions name)

-- both trees, where both are there
abbrev pub two_trees : Option Tree → Option Tree → Option (Tree × Tree)
two_trees None right = None
two_trees (Some f) right = option_map (λ g. (f, g)) right

abbrev pub read_two : Versions → Form → List ℕ → List ℕ → Option (Tree × Tree)
read_two versions form left right = two_trees (read versions form left) (read versions form right)

-- the version that a command writes from those that it reads, where it writes one
abbrev pub written : ℕ → Versions → Command → Option Version
written depth versions (Project name projection) = Some (record { form = Reconstructed; tree = projected depth projection })
written depth versions (Refine name level) = option_map (λ t. record { form = Reconstructed; tree = refined level t }) (read versions Reconstructed name)
written depth versions (Coarsen name) = option_map (λ t. record { form = Reconstructed; tree = coarsened t }) (read versions Reconstructed name)
written depth versions (Compress name) = option_map (λ t. record { form = Compressed; tree = t }) (read versions Reconstructed name)
written depth versions (Reconstruct name) = option_map (λ t. record { form = Reconstructed; tree = t }) (read versions Compressed name)
written depth versions (Add name left_factor left right_factor right) =
    option_map (λ p. record { form = Compressed; tree = weighted_sum left_factor p.0 right_factor p.1 }) (read_two versions Compressed left right)
written depth versions (Mul name left right) = option_map (λ p. record { form = Reconstructed; tree = product p.0 p.1 }) (read_two versions Reconstructed left right)
written depth versions _ = None

-- the newer version, where there is one, and else the one before
abbrev pub newer : Option Version → Option Version → Option Version
newer None before = before
newer (Some version) before = Some version

-- what the names stand for after a command
abbrev pub after : ℕ → Versions → Command → Versions
after depth versions command name = if writes name command then newer (written depth versions command) (versions name) else versions name

-- what the names stand for after these commands
abbrev pub versions_behind : ℕ → List Command → Versions
versions_behind depth commands = fold (after depth) no_versions commands

-- whether a command overflows: a value of the tree that it writes is above what a cell may have
abbrev pub command_overflows : ℕ → Versions → Command → Bool
command_overflows depth versions command = option_map_or (λ version. overflows version.tree) (written depth versions command) false
