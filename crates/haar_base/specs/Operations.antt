-- The commands of a job by what they do.
use Rattle.std.specs.Prelude.{ℕ, zero, suc, ◌^◌, nat_le, Bool, true, ◌&&◌, List, Option, Some, None, slice_get, ℤ}
use Rattle.std.specs.List.{list_all}
use Rattle.std.specs.Int.RustNames.{unsigned_abs}
use Rattle.tree_model.specs.Functions.{fits}
use Rattle.haar_node.specs.Func.{function_of}
use Rattle.haar_units.specs.Jobs.{Operation as Word}
use Rattle.haar_units.specs.Jobs.Operation.{Project as ProjectWord, Refine as RefineWord, Coarsen as CoarsenWord, Compress as CompressWord, Reconstruct as ReconstructWord, Add as AddWord, Mul as MulWord, Inner as InnerWord, Print as PrintWord, Size as SizeWord, Fence as FenceWord}
use Rattle.haar_base.specs.declared.operation.Operation.{Operation}
use Rattle.haar_base.specs.declared.operation.Operation.TheVariants.{Project, Refine, Coarsen, Compress, Reconstruct, Add, Mul, Inner, Print, Size, Fence}

-- the word of what a command does
abbrev pub word_of : Operation → Word
word_of (Project function level tolerance) = ProjectWord
word_of (Refine level source) = RefineWord
word_of (Coarsen source) = CoarsenWord
word_of (Compress source) = CompressWord
word_of (Reconstruct source) = ReconstructWord
word_of (Add left_factor left right_factor right) = AddWord
word_of (Mul left right) = MulWord
word_of (Inner left right) = InnerWord
word_of (Print source form name) = PrintWord
word_of (Size source) = SizeWord
word_of Fence = FenceWord

-- the largest factor of a sum, in absolute value
abbrev pub is_factor : ℤ → Bool
is_factor z = nat_le (unsigned_abs z) (2 ^ 20)

-- whether its numbers are within their limits at a depth
abbrev pub is_within : ℕ → Operation → Bool
is_within depth (Project function level tolerance) = fits depth (function_of function)
is_within depth (Refine level source) = true
is_within depth (Coarsen source) = true
is_within depth (Compress source) = true
is_within depth (Reconstruct source) = true
is_within depth (Add left_factor left right_factor right) = is_factor left_factor && is_factor right_factor
is_within depth (Mul left right) = true
is_within depth (Inner left right) = true
is_within depth (Print source form name) = true
is_within depth (Size source) = true
is_within depth Fence = true

abbrev pub are_within : ℕ → List Operation → Bool
are_within depth operations = list_all (is_within depth) operations

-- the version that is read first, and the one that is read second; 0 where there is none
abbrev pub first_source : Operation → ℕ
first_source (Project function level tolerance) = 0
first_source (Refine level source) = source
first_source (Coarsen source) = source
first_source (Compress source) = source
first_source (Reconstruct source) = source
first_source (Add left_factor left right_factor right) = left
first_source (Mul left right) = left
first_source (Inner left right) = left
first_source (Print source form name) = source
first_source (Size source) = 0
first_source Fence = 0

abbrev pub second_source : Operation → ℕ
second_source (Project function level tolerance) = 0
second_source (Refine level source) = 0
second_source (Coarsen source) = 0
second_source (Compress source) = 0
second_source (Reconstruct source) = 0
second_source (Add left_factor left right_factor right) = right
second_source (Mul left right) = right
second_source (Inner left right) = right
second_source (Print source form name) = 0
second_source (Size source) = 0
second_source Fence = 0

-- the version whose entries are counted
abbrev pub counted_source : Operation → Option ℕ
counted_source (Project function level tolerance) = None
counted_source (Refine level source) = None
counted_source (Coarsen source) = None
counted_source (Compress source) = None
counted_source (Reconstruct source) = None
counted_source (Add left_factor left right_factor right) = None
counted_source (Mul left right) = None
counted_source (Inner left right) = None
counted_source (Print source form name) = None
counted_source (Size source) = Some source
counted_source Fence = None

-- what the command of a number does; commands are numbered from 1
abbrev pub operation_at : List Operation → ℕ → Option Operation
operation_at operations zero = None
operation_at operations (suc before) = slice_get operations before
