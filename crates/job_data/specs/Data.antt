-- The plain data that a job of the code is.
use Rattle.std.specs.Prelude.{Result, Ok, Err}
use Rattle.tree_model.specs.Commands.{Command}
use Rattle.tree_model.specs.Commands.Command.{Project as ProjectCommand, Refine as RefineCommand, Coarsen as CoarsenCommand, Compress as CompressCommand, Reconstruct as ReconstructCommand, Add as AddCommand, Mul as MulCommand, Inner as InnerCommand, Print as PrintCommand, Size as SizeCommand, Fence as FenceCommand}
use Rattle.tree_model.specs.Nodes.{Form}
use Rattle.tree_model.specs.Nodes.Form.{Reconstructed as ReconstructedForm, Compressed as CompressedForm}
use Rattle.job_data.specs.declared.command.Command.{Command as CommandCode}
use Rattle.job_data.specs.declared.command.Command.TheVariants.{Project, Refine, Coarsen, Compress, Reconstruct, Add, Mul, Inner, Print, Size, Fence}
use Rattle.job_data.specs.declared.fault_kind.FaultKind.{FaultKind}
use Rattle.job_data.specs.declared.tree_form.TreeForm.{TreeForm}
use Rattle.job_data.specs.declared.tree_form.TreeForm.TheVariants.{Reconstructed, Compressed}
use Rattle.haar_node.specs.Func.{function_of}
use Rattle.job_words.specs.NameBytes.{bytes_of}

abbrev pub data_of : CommandCode → Command
data_of (Project name function level tolerance) = ProjectCommand (bytes_of name) (record { function = function_of function; level = level; tolerance = tolerance })
data_of (Refine name level) = RefineCommand (bytes_of name) level
data_of (Coarsen name) = CoarsenCommand (bytes_of name)
data_of (Compress name) = CompressCommand (bytes_of name)
data_of (Reconstruct name) = ReconstructCommand (bytes_of name)
data_of (Add name left_factor left right_factor right) = AddCommand (bytes_of name) left_factor (bytes_of left) right_factor (bytes_of right)
data_of (Mul name left right) = MulCommand (bytes_of name) (bytes_of left) (bytes_of right)
data_of (Inner left right) = InnerCommand (bytes_of left) (bytes_of right)
data_of (Print name) = PrintCommand (bytes_of name)
data_of (Size name) = SizeCommand (bytes_of name)
data_of Fence = FenceCommand

-- a command that was read, or a kind of fault
abbrev pub command_read : Result CommandCode FaultKind → Result Command FaultKind
command_read (Ok command) = Ok (data_of command)
command_read (Err kind) = Err kind

abbrev pub form_of : TreeForm → Form
form_of Reconstructed = ReconstructedForm
form_of Compressed = CompressedForm
