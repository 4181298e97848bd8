-- The canonical text of a job: the header and a line for each command, single spaces, and numbers without leading zeros.
use Rattle.std.specs.Prelude.{ℕ, List, [], ◌∷◌, ◌++◌, codes, decimal}
use Rattle.std.specs.Fmt.{signed_decimal}
use Rattle.std.specs.List.{flat_map}
use Rattle.tree_model.specs.Functions.{Function}
use Rattle.tree_model.specs.Functions.Function.{Const, Ramp, Step, Box, Hash}
use Rattle.tree_model.specs.Commands.{Command}
use Rattle.tree_model.specs.Commands.Command.{Project, Refine, Coarsen, Compress, Reconstruct, Add, Mul, Inner, Print, Size, Fence}
use Rattle.tree_model.specs.Jobs.{JobData}
use Rattle.job_words.specs.Lines.{Words, line_of}

-- the words of a function and of a command
abbrev pub function_words : Function → Words
function_words (Const c) = codes "const" ∷ signed_decimal c ∷ []
function_words (Ramp a b) = codes "ramp" ∷ signed_decimal a ∷ signed_decimal b ∷ []
function_words (Step edge before behind) = codes "step" ∷ decimal edge ∷ signed_decimal before ∷ signed_decimal behind ∷ []
function_words (Box start end value) = codes "box" ∷ decimal start ∷ decimal end ∷ signed_decimal value ∷ []
function_words (Hash seed modulus) = codes "hash" ∷ decimal seed ∷ decimal modulus ∷ []

abbrev pub command_words : Command → Words
command_words (Project name p) = codes "project" ∷ name ∷ (function_words p.function ++ codes "level" ∷ decimal p.level ∷ codes "tol" ∷ decimal p.tolerance ∷ [])
command_words (Refine name level) = codes "refine" ∷ name ∷ decimal level ∷ []
command_words (Coarsen name) = codes "coarsen" ∷ name ∷ []
command_words (Compress name) = codes "compress" ∷ name ∷ []
command_words (Reconstruct name) = codes "reconstruct" ∷ name ∷ []
command_words (Add name left_factor left right_factor right) =
    codes "add" ∷ name ∷ codes "=" ∷ signed_decimal left_factor ∷ left ∷ codes "+" ∷ signed_decimal right_factor ∷ right ∷ []
command_words (Mul name left right) = codes "mul" ∷ name ∷ codes "=" ∷ left ∷ codes "*" ∷ right ∷ []
command_words (Inner left right) = codes "inner" ∷ left ∷ right ∷ []
command_words (Print name) = codes "print" ∷ name ∷ []
command_words (Size name) = codes "size" ∷ name ∷ []
command_words Fence = codes "fence" ∷ []

abbrev pub header_words : ℕ → Words
header_words depth = codes "job" ∷ codes "1" ∷ codes "depth" ∷ decimal depth ∷ []

abbrev pub command_text : Command → List ℕ
command_text c = line_of (command_words c) ++ codes "\n"

abbrev pub canonical_text : JobData → List ℕ
canonical_text job = line_of (header_words job.depth) ++ codes "\n" ++ flat_map command_text job.commands
