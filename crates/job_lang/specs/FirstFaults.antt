-- Which line's fault is reported: that of the first line that has one. The line at index 0 has the number 1.
use Rattle.std.specs.Prelude.{◌≡◌, ℕ, ◌+◌, ◌-◌, ◌<◌, ◌==◌, List, [], ◌∷◌, get_or, take, drop, Option, Some, None, is_none, Ok, Err, if◌then◌else◌}
use Rattle.std.specs.List.{flat_map, prefix_len}
use Rattle.std.specs.Option.{option_map_or}
use Rattle.std.specs.Str.Lines.{lines as lines_of}
use Rattle.tree_model.specs.Commands.{Command}
use Rattle.tree_model.specs.Jobs.{JobData}
use Rattle.job_lang.specs.declared.fault.JobFault.{JobFault}
use Rattle.job_data.specs.declared.fault_kind.FaultKind.{FaultKind}
use Rattle.job_data.specs.declared.fault_kind.FaultKind.TheVariants.{ForeignByte, NoHeader}
use Rattle.job_words.specs.Lines.{words, is_passed_over}
use Rattle.job_lang.specs.Grammar.{header_of}
use Rattle.job_lang.specs.Kinds.{command_in, has_foreign_byte, lowest_kind}
use Rattle.job_lang.specs.Reading.{reading_of}

-- the line at an index; after the last line each is empty
abbrev pub line_at : List (List ℕ) → ℕ → List ℕ
line_at lines i = get_or lines i []

-- the index of the header's line: how many lines are passed over before the first that isn't
abbrev pub header_at : List (List ℕ) → ℕ
header_at lines = prefix_len (λ line. is_passed_over (words line)) lines

-- the lowest kind of fault that a line has as the header's: a foreign byte, or words that aren't the header
abbrev pub header_kind : List ℕ → Option FaultKind
header_kind line = if has_foreign_byte line then Some ForeignByte else if is_none (header_of (words line)) then Some NoHeader else None

-- the depth in the header, or 0
abbrev pub depth_told : List (List ℕ) → ℕ
depth_told lines = option_map_or (λ depth. depth) (header_of (words (line_at lines (header_at lines)))) 0

-- the command that a line says, taken by itself
abbrev pub said : List ℕ → List Command
said line = if is_passed_over (words line) then [] else option_map_or (λ c. c ∷ []) (command_in (words line)) []

-- the lines after the header's, and the commands that those before an index say
abbrev pub lines_after : List (List ℕ) → List (List ℕ)
lines_after lines = drop (header_at lines + 1) lines

abbrev pub said_before : List (List ℕ) → ℕ → List Command
said_before lines i = flat_map said (take (i - (header_at lines + 1)) (lines_after lines))

-- the lowest kind of fault that the line at an index has, as the header's, or after the commands that the lines before it say
abbrev pub kind_at : List (List ℕ) → ℕ → Option FaultKind
kind_at lines i =
    if i == header_at lines then header_kind (line_at lines i)
    else if is_passed_over (words (line_at lines i)) then None
    else lowest_kind (depth_told lines) (said_before lines i) (line_at lines i)

-- the line of a fault has its kind, and no line before it has a fault
pub record IsFirstFault (lines : List (List ℕ)) (fault : JobFault) : Type 0 where
  pub at : ℕ
  pub line : fault.line ≡ at + 1
  pub kind : kind_at lines at ≡ Some fault.kind
  pub before : (i : ℕ) → i < at → kind_at lines i ≡ None

-- no line has a fault, and the job has what the lines say
pub record IsFaultless (lines : List (List ℕ)) (job : JobData) : Type 0 where
  pub none : (i : ℕ) → kind_at lines i ≡ None
  pub depth : job.depth ≡ depth_told lines
  pub commands : job.commands ≡ flat_map said (lines_after lines)

-- a fault that is answered is the first, and a job is answered where there is none
pub record FirstFaultsAreTold : Type 0 where
  pub fault : (bytes : List ℕ) (fault : JobFault) → reading_of bytes ≡ Err fault → IsFirstFault (lines_of bytes) fault
  pub job : (bytes : List ℕ) (job : JobData) → reading_of bytes ≡ Ok job → IsFaultless (lines_of bytes) job
