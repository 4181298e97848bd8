-- Jobs on trees as far as their units depend on them: what each command does, and which rank owns which key.
use Rattle.std.specs.Prelude.{ℕ, zero, suc, Bool, true, false, List, map, slice_get, Option, None}
use Rattle.app_core.specs.declared.outline.CommandKind.{CommandKind}
use Rattle.app_core.specs.declared.outline.CommandKind.TheVariants as is

-- what a command does, without its names and numbers
pub data Operation : Type 0 where
  Project : Operation
  Refine : Operation
  Coarsen : Operation
  Compress : Operation
  Reconstruct : Operation
  Add : Operation
  Mul : Operation
  Inner : Operation
  Print : Operation
  Size : Operation
  Fence : Operation

-- the operations of a job's commands in order, the number of ranks, and the rank that owns the key of a place
pub record DistributedJob : Type 0 where
  pub operations : List Operation
  pub ranks : ℕ
  pub owner : ℕ → ℕ

-- whether the units of the command visit the keys of trees
abbrev pub is_on_trees : Operation → Bool
is_on_trees Size = false
is_on_trees Fence = false
is_on_trees _ = true

abbrev pub is_size : Operation → Bool
is_size Size = true
is_size _ = false

abbrev pub is_coarsen : Operation → Bool
is_coarsen Coarsen = true
is_coarsen _ = false

-- whether the down unit of each key puts the key's node
abbrev pub puts_down : Operation → Bool
puts_down Project = true
puts_down Refine = true
puts_down Reconstruct = true
puts_down Add = true
puts_down Mul = true
puts_down _ = false

-- whether the up unit of a key puts its node, and the down unit does where the key has no visited children
abbrev pub puts_up : Operation → Bool
puts_up Coarsen = true
puts_up Compress = true
puts_up _ = false

abbrev pub kind_of : Operation → CommandKind
kind_of Fence = is.Fence
kind_of _ = is.Work

abbrev pub kinds : DistributedJob → List CommandKind
kinds job = map kind_of job.operations

-- the operation of the command of a number; commands are numbered from 1
abbrev pub operation_at : DistributedJob → ℕ → Option Operation
operation_at job zero = None
operation_at job (suc before) = slice_get job.operations before
