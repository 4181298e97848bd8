-- How many tasks run and how many messages are sent for the commands of a job, when keys are distributed over ranks. A task
-- belongs to a key, and runs at the key's owner; what goes between a key and its parent is a message where they have two
-- owners.
use Rattle.std.specs.Prelude.{ℕ, ◌+◌, ◌-◌, ◌*◌, ◌==◌, Bool, false, ◌&&◌, not, List, [], ◌∷◌, take, Option, Some, None}
use Rattle.std.specs.Option.{option_map, option_map_or}
use Rattle.tree_key.specs.Keys.{Key, parent}
use Rattle.tree_model.specs.Commands.{Command}
use Rattle.tree_model.specs.Commands.Command.{Project, Refine, Coarsen, Compress, Reconstruct, Add, Mul, Inner, Print, Size}
use Rattle.tree_model.specs.Jobs.{JobData}
use Rattle.tree_model.specs.Nodes.Form.{Reconstructed, Compressed}
use Rattle.tree_model.specs.Operations.{refined, coarsened, union}
use Rattle.tree_model.specs.Project.{projected}
use Rattle.tree_model.specs.Shapes.{key_count, is_interior}
use Rattle.tree_model.specs.Trees.{Tree}
use Rattle.tree_model.specs.Versions.{Versions, no_versions, read, read_two, after}

-- so many ranks, and the rank that owns each key
pub record Distribution : Type 0 where
  pub ranks : ℕ
  pub owner : Key → ℕ

-- whether a key has another owner than its parent
abbrev pub is_cut : (Key → ℕ) → Key → Bool
is_cut owner k = option_map_or (λ p. not (owner k == owner p)) (parent k) false

-- the keys that a command visits, and those that it erases
pub record Visits : Type 0 where
  pub visited : Key → Bool
  pub erased : Key → Bool

-- the keys of both shapes
abbrev pub intersection : (Key → Bool) → (Key → Bool) → Key → Bool
intersection shape other k = shape k && other k

-- a command that goes over the keys of a shape, and erases none
abbrev pub over : (Key → Bool) → Visits
over shape = record { visited = shape; erased = λ k. false }

-- a command that goes over the keys of a tree, and erases those that the coarsened tree doesn't have
abbrev pub over_coarsened : Tree → Visits
over_coarsened t = record { visited = t.shape; erased = λ k. t.shape k && not ((coarsened t).shape k) }

-- what a command visits, by what the names stand for before it: the keys of the tree that it writes or reads, of both trees
-- together, or those that both have. A size visits no keys, nor does a fence
abbrev pub visits_of : ℕ → Versions → Command → Option Visits
visits_of depth versions (Project name projection) = Some (over (projected depth projection).shape)
visits_of depth versions (Refine name level) = option_map (λ t. over (refined level t).shape) (read versions Reconstructed name)
visits_of depth versions (Coarsen name) = option_map over_coarsened (read versions Reconstructed name)
visits_of depth versions (Compress name) = option_map (λ t. over t.shape) (read versions Reconstructed name)
visits_of depth versions (Reconstruct name) = option_map (λ t. over t.shape) (read versions Compressed name)
visits_of depth versions (Add name left_factor left right_factor right) = option_map (λ p. over (union p.0.shape p.1.shape)) (read_two versions Compressed left right)
visits_of depth versions (Mul name left right) = option_map (λ p. over (union p.0.shape p.1.shape)) (read_two versions Reconstructed left right)
visits_of depth versions (Inner left right) = option_map (λ p. over (intersection p.0.shape p.1.shape)) (read_two versions Compressed left right)
visits_of depth versions (Print name) = option_map (λ version. over version.tree.shape) (versions name)
visits_of depth versions _ = None

-- a number of messages and a number of tasks
pub record Total : Type 0 where
  pub messages : ℕ
  pub tasks : ℕ

abbrev pub nothing : Total
nothing = record { messages = 0; tasks = 0 }

abbrev pub plus : Total → Total → Total
plus a b = record { messages = a.messages + b.messages; tasks = a.tasks + b.tasks }

-- a task for each visited key, one more for each that has visited children, and a task for each erased key; two messages for
-- each visited key that has another owner than its parent, and one for each such key that is erased
abbrev pub visits_total : Distribution → ℕ → Visits → Total
visits_total d depth v = record {
  messages = 2 * key_count depth (λ k. v.visited k && is_cut d.owner k) + key_count depth (λ k. v.erased k && is_cut d.owner k);
  tasks = key_count depth v.visited + key_count depth (is_interior v.visited) + key_count depth v.erased;
}

-- a size has a task on each rank that counts the rank's keys, and one on rank 0 that adds the counts up. Each other rank is
-- sent its task, and sends its count
abbrev pub size_total : Distribution → Total
size_total d = record { messages = 2 * (d.ranks - 1); tasks = d.ranks + 1 }

-- what a command comes to, by what the names stand for before it
abbrev pub command_total : Distribution → ℕ → Versions → Command → Total
command_total d depth versions (Size name) = size_total d
command_total d depth versions command = option_map_or (visits_total d depth) (visits_of depth versions command) nothing

-- what these commands come to together, by what the names stand for before the first
abbrev pub total_from : Distribution → ℕ → Versions → List Command → Total
total_from d depth versions [] = nothing
total_from d depth versions (c ∷ cs) = plus (command_total d depth versions c) (total_from d depth (after depth versions c) cs)

-- what the first commands of a job come to together
abbrev pub total_of : Distribution → ℕ → List Command → Total
total_of d depth commands = total_from d depth no_versions commands

-- what the commands of a job before the one of this number come to; commands are numbered from 1
abbrev pub total_before : Distribution → JobData → ℕ → Total
total_before d job number = total_of d job.depth (take (number - 1) job.commands)
