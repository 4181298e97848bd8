-- The commands of an application, by their numbers.
use Rattle.std.specs.Prelude.{◌≡◌, ℕ, zero, suc, ◌≤◌, List, length, Option, Some, None, slice_get}
use Rattle.app_core.specs.declared.outline.CommandKind.{CommandKind}
use Rattle.app_core.specs.declared.outline.CommandKind.TheVariants.{Work}

-- the kind of the command of a number; commands are numbered from 1
abbrev pub kind_of : List CommandKind → ℕ → Option CommandKind
kind_of kinds zero = None
kind_of kinds (suc before) = slice_get kinds before

-- the number is one of a command
abbrev pub IsCommand : List CommandKind → ℕ → Type 0
IsCommand kinds command = (1 ≤ command) × (command ≤ length kinds)

-- the number is one of a work command
abbrev pub IsWork : List CommandKind → ℕ → Type 0
IsWork kinds command = kind_of kinds command ≡ Some Work

-- the runtime has 1 to 16 ranks
abbrev pub IsRankCount : ℕ → Type 0
IsRankCount ranks = (1 ≤ ranks) × (ranks ≤ 16)
