-- The right values of futures, by what their commands mean.
use Rattle.std.specs.Prelude.{◌≡◌, ℕ, zero, suc, ◌&&◌, ◌==◌, not, if◌then◌else◌, Bool, List, Option, Some, None, IfSome, ⊤}
use Rattle.std.specs.List.{list_any}
use Rattle.app_core.specs.declared.Label.{Label}
use Rattle.job_data.specs.Data.{form_of}
use Rattle.job_words.specs.NameBytes.{bytes_of}
use Rattle.owner_map.specs.Owners.{owner}
use Rattle.tree_key.specs.Keys.{Key}
use Rattle.tree_model.specs.Functions.{is_value}
use Rattle.tree_model.specs.Nodes.Form.{Compressed}
use Rattle.tree_model.specs.Products.{inner_product, inner_part}
use Rattle.tree_model.specs.Shapes.{key_count}
use Rattle.tree_model.specs.Trees.{Tree, box_values, box_sum, is_constant}
use Rattle.tree_model.specs.Versions.{Version, tree_in, two_trees}
use Rattle.haar_units.specs.Places.{key_at}
use Rattle.haar_base.specs.declared.operation.Operation.{Operation}
use Rattle.haar_base.specs.declared.operation.Operation.TheVariants.{Coarsen, Compress, Inner, Print, Size}
use Rattle.haar_base.specs.declared.value.Value.{Value}
use Rattle.haar_base.specs.declared.value.Value.TheVariants.{Done, Sum, Product, Lines, Count, Bad}
use Rattle.haar_base.specs.Operations.{operation_at}
use Rattle.haar_meaning.specs.PlannedJobs.{PlannedJob, Standing, standing, IfBefore, version_of}
use Rattle.haar_meaning.specs.PlannedJobs.Standing.{Before, At, After}
use Rattle.haar_meaning.specs.Printed.{AreRightRows}

-- before the first command that overflows

-- what the future of a key has, by the operation that writes a tree: the sum over the key's box, where the command needs it above
abbrev pub written_value : Operation → Tree → Key → Value
written_value (Compress source) t k = Sum (box_sum t k)
written_value (Coarsen source) t k = if is_constant t k then Sum (box_sum t k) else Done
written_value _ t k = Done

-- what the differences at a key and below it add to the inner product; at the root the inner product
abbrev pub inner_value : Tree → Tree → Key → Value
inner_value f g k = Product (if k.level == 0 then inner_product f g else inner_part f g k)

-- the value has the lines of the keys in the box of a key
abbrev pub HasLines : (List (List ℕ) → Type 0) → Value → Type 0
HasLines AreRight (Lines rows) = AreRight rows
HasLines AreRight _ = ⊥

-- how many keys of a version's tree a rank owns
abbrev pub rank_count : PlannedJob → Version → ℕ → ℕ
rank_count job version rank = key_count job.depth (λ k. version.tree.shape k && (owner job.owners k job.ranks == rank))

-- the trees that a command reads, in the form that it needs
abbrev pub both_read : PlannedJob → ℕ → ℕ → Option (Tree × Tree)
both_read job left right = two_trees (tree_in Compressed (version_of job left)) (tree_in Compressed (version_of job right))

abbrev pub IsWritten : PlannedJob → ℕ → Operation → Key → Value → Type 0
IsWritten job command operation k v = IfSome (version_of job command) (λ version. v ≡ written_value operation version.tree k)

-- a right value of the future of a key
abbrev pub IsMeant : PlannedJob → ℕ → Operation → Key → Value → Type 0
IsMeant job command (Inner left right) k v = IfSome (both_read job left right) (λ p. v ≡ inner_value p.0 p.1 k)
IsMeant job command (Print source form name) k v = IfSome (tree_in (form_of form) (version_of job source)) (λ t. HasLines (AreRightRows (form_of form) (bytes_of name) t k) v)
IsMeant job command (Size source) k v = IfSome (version_of job source) (λ version. v ≡ Count (key_count job.depth version.tree.shape))
IsMeant job command operation k v = IsWritten job command operation k v

-- at the first command that overflows

-- whether a value on the box of a key is above what a cell may have
abbrev pub overflows_on : Tree → Key → Bool
overflows_on t k = list_any (λ z. not (is_value z)) (box_values t k)

abbrev pub overflow_value : Tree → Key → Value
overflow_value t k = if overflows_on t k then Bad else Done

abbrev pub IsOverflow : PlannedJob → ℕ → Key → Value → Type 0
IsOverflow job command k v = IfSome (version_of job command) (λ version. v ≡ overflow_value version.tree k)

-- by where the command stands; after the first one that overflows each value is right
abbrev pub IsValueAt : PlannedJob → Standing → ℕ → Operation → Key → Value → Type 0
IsValueAt job Before command operation k v = IsMeant job command operation k v
IsValueAt job At command operation k v = IsOverflow job command k v
IsValueAt job After command operation k v = ⊤

abbrev pub IsKeyValue : PlannedJob → ℕ → Option Operation → Key → Value → Type 0
IsKeyValue job command None k v = ⊤
IsKeyValue job command (Some operation) k v = IsValueAt job (standing job command) command operation k v

-- a right count of a rank, which `size` asks for
abbrev pub IsCounted : PlannedJob → Option Operation → ℕ → Value → Type 0
IsCounted job (Some (Size source)) rank v = IfSome (version_of job source) (λ version. v ≡ Count (rank_count job version rank))
IsCounted job _ rank v = ⊤

abbrev pub IsRankValue : PlannedJob → ℕ → Option Operation → ℕ → Value → Type 0
IsRankValue job command operation rank v = IfBefore (standing job command) (IsCounted job operation rank v)

-- the futures of part 0 are those of keys, and those of part 1 have the counts of ranks
abbrev pub IsValueOf : PlannedJob → ℕ → ℕ → ℕ → Value → Type 0
IsValueOf job command zero place v = IsKeyValue job command (operation_at job.operations command) (key_at place) v
IsValueOf job command (suc zero) place v = IsRankValue job command (operation_at job.operations command) place v
IsValueOf job command (suc (suc part)) place v = ⊤

-- a right value of a future
abbrev pub IsRightValue : PlannedJob → Label → Value → Type 0
IsRightValue job future v = IsValueOf job future.command future.part future.place v
