-- Jobs of `tree_model` as commands with units: their operations, and the keys that each command visits, erases and writes.
use Rattle.std.specs.Prelude.{◌≡◌, ◌↔◌, ℕ, zero, suc, ◌+◌, ◌^◌, ◌<◌, true, false, ◌&&◌, ◌==◌, if◌then◌else◌, List, [], ◌∷◌, ◌++◌, length, map, take, slice_get, Option, Some, None, Contains}
use Rattle.std.specs.Option.{option_and_then, option_map_or}
use Rattle.tree_key.specs.Keys.{Key, place_of}
use Rattle.tree_model.specs.Commands.{Command}
use Rattle.tree_model.specs.Receipts.{is_fence, fence_count}
use Rattle.tree_model.specs.Shapes.{is_key_of, key_count}
use Rattle.tree_model.specs.Signatures.{writes as writes_name}
use Rattle.tree_model.specs.Totals.{Distribution, Visits, visits_of}
use Rattle.tree_model.specs.Totals.{total_of as serial_total}
use Rattle.tree_model.specs.Versions.{Version, Versions, no_versions, written, versions_behind}
use Rattle.haar_units.specs.Jobs.{Operation, DistributedJob}
use Rattle.haar_units.specs.Jobs.Operation.{Project, Refine, Coarsen, Compress, Reconstruct, Add, Mul, Inner, Print, Size, Fence}
use Rattle.haar_units.specs.Traversals.{Traversal, IsTraversal}
use Rattle.haar_units.specs.Bins.{writer_of, holds}
use Rattle.haar_units.specs.Totals.{sum_to, total_of}
use Rattle.haar_units.specs.Places.{has_place}
use Rattle.haar_units.specs.Distributions.{place_owner, IsOverKeys}

abbrev pub operation_of : Command → Operation
operation_of (Command.Project name projection) = Project
operation_of (Command.Refine name level) = Refine
operation_of (Command.Coarsen name) = Coarsen
operation_of (Command.Compress name) = Compress
operation_of (Command.Reconstruct name) = Reconstruct
operation_of (Command.Add name left_factor left right_factor right) = Add
operation_of (Command.Mul name left right) = Mul
operation_of (Command.Inner left right) = Inner
operation_of (Command.Print name) = Print
operation_of (Command.Size name) = Size
operation_of Command.Fence = Fence

-- these commands, with the ranks and owners of a distribution
abbrev pub distributed : Distribution → List Command → DistributedJob
distributed distribution commands = record { operations = map operation_of commands; ranks = distribution.ranks; owner = place_owner distribution }

-- the command of a number, from 1, and what the names stand for before it
abbrev pub command_at : List Command → ℕ → Option Command
command_at commands zero = None
command_at commands (suc before) = slice_get commands before

abbrev pub versions_before : ℕ → List Command → ℕ → Versions
versions_before depth commands zero = no_versions
versions_before depth commands (suc before) = versions_behind depth (take before commands)

-- what the command of a number visits and erases, and the version that it writes
abbrev pub keys_at : ℕ → List Command → ℕ → Option Visits
keys_at depth commands number = option_and_then (visits_of depth (versions_before depth commands number)) (command_at commands number)

abbrev pub version_at : ℕ → List Command → ℕ → Option Version
version_at depth commands number = option_and_then (written depth (versions_before depth commands number)) (command_at commands number)

-- what all commands visit and erase
abbrev pub traversal_of : ℕ → List Command → Traversal
traversal_of depth commands = record {
  visits = λ number place. option_map_or (λ keys. has_place keys.visited place) (keys_at depth commands number) false;
  erases = λ number place. option_map_or (λ keys. has_place keys.erased place) (keys_at depth commands number) false;
}

-- each command that visits keys meets `IsTraversal`
abbrev pub JobsAreTraversed : Type 0
JobsAreTraversed =
    (distribution : Distribution) (depth : ℕ) (commands : List Command) (number : ℕ) (keys : Visits) → keys_at depth commands number ≡ Some keys
    → IsOverKeys (traversal_of depth commands) number keys × IsTraversal (distributed distribution commands) (traversal_of depth commands) (2 ^ (depth + 1)) number

-- before the command of a number, the command `version` is the last that writes a name
pub record IsLastWriter (commands : List Command) (number : ℕ) (name : List ℕ) (version : ℕ) : Type 0 where
  pub earlier : version < number
  pub writer : Command
  pub at : command_at commands version ≡ Some writer
  pub writes_it : writes_name name writer ≡ true
  pub last : (other : ℕ) (c : Command) → version < other → other < number → command_at commands other ≡ Some c → writes_name name c ≡ false

-- then the name stands for what that command wrote
abbrev pub ReadsAreVersions : Type 0
ReadsAreVersions =
    (depth : ℕ) (commands : List Command) (number : ℕ) (name : List ℕ) (number_of_version : ℕ) (version : Version)
    → IsLastWriter commands number name number_of_version → version_at depth commands number_of_version ≡ Some version → versions_before depth commands number name ≡ Some version

-- the commands before the fence of a number; all of them for a number after that of the last fence
abbrev pub before_fence : ℕ → List Command → List Command
before_fence zero commands = []
before_fence (suc later) [] = []
before_fence (suc later) (c ∷ cs) = if is_fence c && (later == 0) then [] else c ∷ before_fence (if is_fence c then later else suc later) cs

-- the fence after so many others has this number, and the end of the job has the number after that of the last fence
abbrev pub FencesHaveNumbers : Type 0
FencesHaveNumbers =
    ((before after : List Command) (c : Command) → is_fence c ≡ true → before_fence (fence_count before + 1) (before ++ c ∷ after) ≡ before)
    × ((commands : List Command) → before_fence (fence_count commands + 1) commands ≡ commands)

-- up to each fence, the units have as many tasks and messages as the receipts of the model say
abbrev pub TotalsAreSerial : Type 0
TotalsAreSerial =
    (distribution : Distribution) (depth : ℕ) (commands : List Command) (fence : ℕ)
    → total_of (distributed distribution commands) (traversal_of depth commands) (2 ^ (depth + 1)) fence
    ≡ ((serial_total distribution depth (before_fence fence commands)).messages, (serial_total distribution depth (before_fence fence commands)).tasks)

-- a rank holds, of the version of a command, just the keys of its tree that the rank owns
pub record HoldsTree (distribution : Distribution) (depth : ℕ) (commands : List Command) (number : ℕ) (version : Version) (rank : ℕ) : Type 0 where
  pub writer : writer_of (distributed distribution commands) number ≡ Some number
  pub keys : (k : Key) → is_key_of depth k ≡ true
      → Contains (holds (distributed distribution commands) (traversal_of depth commands) (2 ^ (depth + 1)) rank number) (place_of k) ↔ ((version.tree.shape k ≡ true) × (distribution.owner k ≡ rank))
  pub only_keys : (place : ℕ) → Contains (holds (distributed distribution commands) (traversal_of depth commands) (2 ^ (depth + 1)) rank number) place → (k : Key) × (is_key_of depth k ≡ true) × (place_of k ≡ place)

abbrev pub HoldsAreTrees : Type 0
HoldsAreTrees =
    (distribution : Distribution) (depth : ℕ) (commands : List Command) (number : ℕ) (version : Version) (rank : ℕ)
    → version_at depth commands number ≡ Some version → HoldsTree distribution depth commands number version rank

-- and the numbers of places at all ranks add up to the number of the tree's keys
abbrev pub SizesAddUp : Type 0
SizesAddUp =
    (distribution : Distribution) (depth : ℕ) (commands : List Command) (number : ℕ) (version : Version)
    → ((k : Key) → is_key_of depth k ≡ true → distribution.owner k < distribution.ranks) → version_at depth commands number ≡ Some version
    → sum_to (λ rank. length (holds (distributed distribution commands) (traversal_of depth commands) (2 ^ (depth + 1)) rank number)) distribution.ranks
    ≡ key_count depth version.tree.shape
