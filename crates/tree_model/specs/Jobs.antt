-- Jobs and their texts: what a job's commands write, one after another, up to the first that overflows.
use Rattle.std.specs.Prelude.{ℕ, ◌+◌, ◌-◌, List, [], ◌∷◌, ◌++◌, take, Option, Some, None, if◌then◌else◌}
use Rattle.std.specs.Option.{option_map_or}
use Rattle.tree_model.specs.Commands.{Command}
use Rattle.tree_model.specs.Commands.Command.{Inner, Print, Size}
use Rattle.tree_model.specs.Nodes.Form.{Compressed}
use Rattle.tree_model.specs.OperationTexts.{printed_lines, inner_line, size_line, overflow_line}
use Rattle.tree_model.specs.Versions.{Versions, no_versions, read_two, after, command_overflows}

-- a job: its depth and its commands
pub record JobData : Type 0 where
  pub depth : ℕ
  pub commands : List Command

-- the lines of a command, by what the names stand for before it; most commands have none
abbrev pub command_lines : Versions → Command → List ℕ
command_lines versions (Inner left right) = option_map_or (λ p. inner_line left p.0 right p.1) (read_two versions Compressed left right) []
command_lines versions (Print name) = option_map_or (λ version. printed_lines version.form name version.tree) (versions name) []
command_lines versions (Size name) = option_map_or (λ version. size_line name version.tree) (versions name) []
command_lines versions _ = []

-- the lines of these commands, one after another, by what the names stand for before the first
abbrev pub lines_from : ℕ → Versions → List Command → List ℕ
lines_from depth versions [] = []
lines_from depth versions (c ∷ cs) = command_lines versions c ++ lines_from depth (after depth versions c) cs

-- the number of the first of these commands that overflows, where they are numbered from `number`
abbrev pub overflow_from : ℕ → Versions → ℕ → List Command → Option ℕ
overflow_from depth versions number [] = None
overflow_from depth versions number (c ∷ cs) =
    if command_overflows depth versions c then Some number else overflow_from depth (after depth versions c) (number + 1) cs

-- the first command of a job that overflows, where one does; commands are numbered from 1
abbrev pub first_overflow : JobData → Option ℕ
first_overflow job = overflow_from job.depth no_versions 1 job.commands

-- the lines of a job's commands before the one of this number
abbrev pub lines_before : JobData → ℕ → List ℕ
lines_before job number = lines_from job.depth no_versions (take (number - 1) job.commands)

-- the lines of all commands; or of those before the first that overflows, and a line that names it: the commands after it
-- have no meaning
abbrev pub text_with : JobData → Option ℕ → List ℕ
text_with job None = lines_from job.depth no_versions job.commands
text_with job (Some number) = lines_before job number ++ overflow_line number

-- the text of a job
abbrev pub job_text : JobData → List ℕ
job_text job = text_with job (first_overflow job)
