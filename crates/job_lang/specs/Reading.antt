-- The job that a list of bytes is, or its fault: the lowest kind that the first line with one has.
use Rattle.std.specs.Prelude.{ℕ, ◌+◌, List, [], ◌∷◌, ◌++◌, Option, Some, None, Result, Ok, Err, if◌then◌else◌}
use Rattle.std.specs.List.{list_all}
use Rattle.std.specs.Str.Lines.{lines}
use Rattle.tree_model.specs.Commands.{Command}
use Rattle.tree_model.specs.Jobs.{JobData}
use Rattle.job_lang.specs.declared.fault.JobFault.{JobFault}
use Rattle.job_data.specs.declared.fault_kind.FaultKind.{FaultKind}
use Rattle.job_data.specs.declared.fault_kind.FaultKind.TheVariants.{ForeignByte, NoHeader, UnknownCommand, WrongWords, BeyondLimits}
use Rattle.job_words.specs.Lines.{Words, words, is_allowed, is_passed_over}
use Rattle.job_lang.specs.Grammar.{header_of, verb_of, form_of, command_of_form}
use Rattle.job_data.specs.CheckedCommands.{checked, checked_command}

-- what comes of a value, and where there is none the kind of fault
abbrev pub read : {A B : Type 0} → FaultKind → Option A → (A → Result B FaultKind) → Result B FaultKind
read kind None next = Err kind
read kind (Some x) next = next x

-- the command that words say, the first of which is its verb
abbrev pub command_of_words : ℕ → List Command → Words → Result Command FaultKind
command_of_words depth before [] = Err UnknownCommand
command_of_words depth before (word ∷ rest) =
    read UnknownCommand (verb_of word)
    (λ verb. read WrongWords (form_of verb rest)
    (λ form. read BeyondLimits (command_of_form form) (checked_command depth before)))

-- the command that a line says, or the lowest kind of fault that it has
abbrev pub command_of_line : ℕ → List Command → List ℕ → Result Command FaultKind
command_of_line depth before line = checked ForeignByte (list_all is_allowed line) (command_of_words depth before (words line))

-- the depth that a line has as the header, or the lowest kind of fault that it has
abbrev pub depth_of_line : List ℕ → Result ℕ FaultKind
depth_of_line line = checked ForeignByte (list_all is_allowed line) (read NoHeader (header_of (words line)) (λ depth. Ok depth))

-- the depth that the header has, the lines after it, and the number of the first of them
pub record Header : Type 0 where
  pub depth : ℕ
  pub number : ℕ
  pub rest : List (List ℕ)

abbrev pub header_behind : ℕ → List (List ℕ) → Result ℕ FaultKind → Result Header JobFault
header_behind number rest (Ok depth) = Ok (record { depth = depth; number = number + 1; rest = rest })
header_behind number rest (Err kind) = Err (record { line = number; kind = kind })

-- the first line that isn't passed over has to be the header; lines are numbered from `number`
abbrev pub header_from : ℕ → List (List ℕ) → Result Header JobFault
header_from number [] = Err (record { line = number; kind = NoHeader })
header_from number (line ∷ rest) =
    if is_passed_over (words line) then header_from (number + 1) rest
    else header_behind number rest (depth_of_line line)

-- the commands of all lines from `number` on, after those before them
abbrev pub commands_from : ℕ → List Command → ℕ → List (List ℕ) → Result (List Command) JobFault
commands_from depth before number [] = Ok before
commands_from depth before number (line ∷ rest) =
    if is_passed_over (words line) then commands_from depth before (number + 1) rest
    else (elim (command_of_line depth before line) as (λ _. Result (List Command) JobFault) [
      | Err kind ↦ Err (record { line = number; kind = kind })
      | Ok command ↦ commands_from depth (before ++ command ∷ []) (number + 1) rest
    ])

-- a job of these commands, where there is no fault
abbrev pub job_with : ℕ → Result (List Command) JobFault → Result JobData JobFault
job_with depth (Ok commands) = Ok (record { depth = depth; commands = commands })
job_with depth (Err fault) = Err fault

abbrev pub job_behind : Result Header JobFault → Result JobData JobFault
job_behind (Ok header) = job_with header.depth (commands_from header.depth [] header.number header.rest)
job_behind (Err fault) = Err fault

abbrev pub reading_of : List ℕ → Result JobData JobFault
reading_of bytes = job_behind (header_from 1 (lines bytes))
