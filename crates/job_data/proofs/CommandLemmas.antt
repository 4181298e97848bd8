-- Lemmas that crates above use: the names of a command are names.
use Rattle.std.proofs.Common.{◌≡◌, true, refl}
use Rattle.job_data.specs.declared.command.Command.{Command}
use Rattle.job_data.specs.declared.command.Command.TheVariants.{Project, Refine, Coarsen, Compress, Reconstruct, Add, Mul, Inner, Print, Size, Fence}
use Rattle.job_data.specs.Checks.{has_names}
use Rattle.job_data.specs.Data.{data_of}

pub data_of_names : (c : Command) → has_names (data_of c) ≡ true
data_of_names (Project name function level tolerance) = rw name.is_name refl
data_of_names (Refine name level) = rw name.is_name refl
data_of_names (Coarsen name) = rw name.is_name refl
data_of_names (Compress name) = rw name.is_name refl
data_of_names (Reconstruct name) = rw name.is_name refl
data_of_names (Add name left_factor left right_factor right) = rw (name.is_name, left.is_name, right.is_name) refl
data_of_names (Mul name left right) = rw (name.is_name, left.is_name, right.is_name) refl
data_of_names (Inner left right) = rw (left.is_name, right.is_name) refl
data_of_names (Print name) = rw name.is_name refl
data_of_names (Size name) = rw name.is_name refl
data_of_names Fence = refl
