-- What each command of a job does, by the versions that its step of the plan reads.
use Rattle.std.specs.Prelude.{ℕ, zero, suc, List, Option, Some, None, slice_get}
use Rattle.std.specs.Option.{option_and_then, option_map_or}
use Rattle.tree_model.specs.Commands.{Command as CommandData}
use Rattle.tree_model.specs.Jobs.{JobData}
use Rattle.tree_model.specs.Nodes.{Form}
use Rattle.tree_model.specs.Nodes.Form.{Reconstructed as ReconstructedForm, Compressed as CompressedForm}
use Rattle.tree_model.specs.Signatures.{written_form}
use Rattle.owner_map.specs.declared.OwnerMap.{OwnerMap}
use Rattle.job_data.specs.declared.command.Command.{Command}
use Rattle.job_data.specs.declared.command.Command.TheVariants as command
use Rattle.job_data.specs.declared.sources.Sources.{Sources}
use Rattle.job_data.specs.declared.sources.Sources.TheVariants.{Nothing, One, Two}
use Rattle.job_data.specs.declared.step.Step.{Step}
use Rattle.job_data.specs.declared.tree_form.TreeForm.{TreeForm}
use Rattle.job_data.specs.declared.tree_form.TreeForm.TheVariants.{Reconstructed, Compressed}
use Rattle.haar_base.specs.declared.operation.Operation.{Operation}
use Rattle.haar_base.specs.declared.operation.Operation.TheVariants as does
use Rattle.haar_meaning.specs.PlannedJobs.{PlannedJob}

-- the version that is read first, and the one that is read second; 0 where there is none
abbrev pub first_of : Sources → ℕ
first_of Nothing = 0
first_of (One version) = version
first_of (Two left right) = left

abbrev pub second_of : Sources → ℕ
second_of Nothing = 0
second_of (One version) = 0
second_of (Two left right) = right

-- the command of a number, from 1
abbrev pub code_at : List Command → ℕ → Option Command
code_at commands zero = None
code_at commands (suc before) = slice_get commands before

-- the form in which the command of a number writes its tree
abbrev pub written_at : List CommandData → ℕ → Option Form
written_at commands zero = None
written_at commands (suc before) = option_and_then written_form (slice_get commands before)

-- as a form of the code
abbrev pub tree_form : Option Form → TreeForm
tree_form None = Reconstructed
tree_form (Some ReconstructedForm) = Reconstructed
tree_form (Some CompressedForm) = Compressed

-- what a command does that reads these versions; the form is that of the first
abbrev pub operation_for : Command → Sources → TreeForm → Operation
operation_for (command.Project name function level tolerance) reads form = does.Project function level tolerance
operation_for (command.Refine name level) reads form = does.Refine level (first_of reads)
operation_for (command.Coarsen name) reads form = does.Coarsen (first_of reads)
operation_for (command.Compress name) reads form = does.Compress (first_of reads)
operation_for (command.Reconstruct name) reads form = does.Reconstruct (first_of reads)
operation_for (command.Add name left_factor left right_factor right) reads form = does.Add left_factor (first_of reads) right_factor (second_of reads)
operation_for (command.Mul name left right) reads form = does.Mul (first_of reads) (second_of reads)
operation_for (command.Inner left right) reads form = does.Inner (first_of reads) (second_of reads)
operation_for (command.Print name) reads form = does.Print (first_of reads) form name
operation_for (command.Size name) reads form = does.Size (first_of reads)
operation_for command.Fence reads form = does.Fence

-- what the step at a place reads
abbrev pub reads_in : List Step → ℕ → Sources
reads_in steps at = option_map_or (λ step. step.reads) (slice_get steps at) Nothing

-- a job with what its commands do, for an owner map and a number of ranks
abbrev pub planned : JobData → ℕ → List Operation → OwnerMap → ℕ → PlannedJob
planned job depth operations owners ranks = record { depth = depth; commands = job.commands; operations = operations; owners = owners; ranks = ranks }
