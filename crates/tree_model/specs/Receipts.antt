-- The text of a job with receipts: a line at each fence, and one at the end, with what the commands before it come to.
use Rattle.std.specs.Prelude.{ℕ, ◌+◌, ◌-◌, Bool, List, [], ◌∷◌, ◌++◌, take, Option, Some, None, count_by, codes, decimal, if◌then◌else◌}
use Rattle.tree_model.specs.Commands.{Command}
use Rattle.tree_model.specs.Jobs.{JobData, command_lines, first_overflow, job_text}
use Rattle.tree_model.specs.OperationTexts.{overflow_line}
use Rattle.tree_model.specs.Signatures.{signature_of}
use Rattle.tree_model.specs.Totals.{Distribution, Total, total_of}
use Rattle.tree_model.specs.Versions.{versions_behind}

-- the line of a fence, which are numbered from 1, and that of the end
abbrev pub total_text : Total → List ℕ
total_text total = codes "messages " ++ decimal total.messages ++ codes " tasks " ++ decimal total.tasks ++ codes "\n"

abbrev pub fence_line : ℕ → Total → List ℕ
fence_line number total = codes "fence " ++ decimal number ++ codes " " ++ total_text total

abbrev pub end_line : Total → List ℕ
end_line total = codes "end " ++ total_text total

-- whether a command is a fence, and how many of these are
abbrev pub is_fence : Command → Bool
is_fence command = (signature_of command).fences

abbrev pub fence_count : List Command → ℕ
fence_count commands = count_by is_fence commands

-- the line of a command that is a fence, after the commands before it
abbrev pub receipt : Distribution → ℕ → List Command → Command → List ℕ
receipt d depth before command = if is_fence command then fence_line (fence_count before + 1) (total_of d depth before) else []

-- the lines of these commands with receipts, one after another, after the commands before them
abbrev pub lines_with_receipts : Distribution → ℕ → List Command → List Command → List ℕ
lines_with_receipts d depth before [] = []
lines_with_receipts d depth before (c ∷ cs) =
    command_lines (versions_behind depth before) c ++ receipt d depth before c ++ lines_with_receipts d depth (before ++ c ∷ []) cs

-- the lines of the commands of a job before the one of this number
abbrev pub receipts_before : Distribution → JobData → ℕ → List ℕ
receipts_before d job number = lines_with_receipts d job.depth [] (take (number - 1) job.commands)

-- the lines of all commands and the line of the end; or the lines of the commands before the first that overflows, and a
-- line that names it
abbrev pub receipts_with : Distribution → JobData → Option ℕ → List ℕ
receipts_with d job None = lines_with_receipts d job.depth [] job.commands ++ end_line (total_of d job.depth job.commands)
receipts_with d job (Some number) = receipts_before d job number ++ overflow_line number

-- the text of a job, with receipts or without them; without them, no distribution plays a part
abbrev pub text_of : Distribution → Bool → JobData → List ℕ
text_of d receipts job = if receipts then receipts_with d job (first_overflow job) else job_text job
