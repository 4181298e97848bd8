-- What the program answers: a status, and the text that goes with it.
use Rattle.std.specs.Prelude.{◌≡◌, ℕ, ◌+◌, ◌≤◌, ◌⊎◌, Bool, true, false, nat_lt, List, [], ◌++◌, length, position, take, Option, Some, None, Result, Ok, Err, MatchOption, is_none, ⊤, codes, decimal, if◌then◌else◌}
use Rattle.std.specs.Option.{option_map, option_map_or}
use Rattle.std.specs.Io.KnownBytes.{Appends}
use Rattle.outside.specs.Causes.{Rose}
use Rattle.tree_model.specs.Commands.{Command}
use Rattle.tree_model.specs.Commands.Command.{Coarsen, Size}
use Rattle.tree_model.specs.Jobs.{JobData, job_text, first_overflow}
use Rattle.tree_model.specs.Receipts.{text_of}
use Rattle.tree_model.specs.Totals.{Distribution}
use Rattle.tree_totals.specs.Counts.{by_map}
use Rattle.job_data.specs.Checks.{trees_behind}
use Rattle.job_lang.specs.Canonical.{canonical_text}
use Rattle.job_lang.specs.declared.JobFault.{JobFault}
use Rattle.job_lang.specs.Faults.{fault_line}
use Rattle.job_lang.specs.Reading.{reading_of}
use Rattle.big_job.specs.Generator.{big_job}
use Rattle.command_line.specs.Requests.{request_of}
use Rattle.command_line.specs.declared.request.Request.{Request}
use Rattle.command_line.specs.declared.request.Request.TheVariants.{Run, Serial, Check, BigJob}

-- the statuses
abbrev pub done : ℕ
done = 0

abbrev pub usage : ℕ
usage = 1

abbrev pub job_fault : ℕ
job_fault = 2

abbrev pub overflow : ℕ
overflow = 3

abbrev pub out_of_memory : ℕ
out_of_memory = 4

abbrev pub read_fault : ℕ
read_fault = 5

abbrev pub write_fault : ℕ
write_fault = 6

-- one of the statuses
abbrev pub IsStatus : ℕ → Type 0
IsStatus n = (n ≡ done) ⊎ ((n ≡ usage) ⊎ ((n ≡ job_fault) ⊎ ((n ≡ overflow) ⊎ ((n ≡ out_of_memory) ⊎ ((n ≡ read_fault) ⊎ (n ≡ write_fault))))))

-- the most bytes that a job's text may have
abbrev pub max_input : ℕ
max_input = 1048576

abbrev pub usage_text : List ℕ
usage_text = codes "usage: world run, serial, check, audit or big N, with options\n"

pub record Answer : Type 0 where
  pub status : ℕ
  pub text : List ℕ

-- the status of a job that is done
abbrev pub job_status : JobData → ℕ
job_status job = if is_none (first_overflow job) then done else overflow

-- the answer to a job that is done serially: its text, with receipts or without
abbrev pub serial_job_answer : Distribution → Bool → JobData → Answer
serial_job_answer d receipts job = record { status = job_status job; text = text_of d receipts job }

-- what `run` can't carry out yet, and the first such command of a job; commands are numbered from 1
abbrev pub is_unbuilt : Command → Bool
is_unbuilt (Coarsen name) = true
is_unbuilt (Size name) = true
is_unbuilt command = false

abbrev pub first_unbuilt : JobData → Option ℕ
first_unbuilt job = option_map (λ index. index + 1) (position is_unbuilt job.commands)

abbrev pub unbuilt_line : ℕ → List ℕ
unbuilt_line number = codes "fault command " ++ decimal number ++ codes " unbuilt\n"

abbrev pub unbuilt_answer : ℕ → Answer
unbuilt_answer number = record { status = job_fault; text = unbuilt_line number }

-- the answer to a job that is run: the line of its first command that can't be carried out yet, or its text
abbrev pub run_job_answer : JobData → Answer
run_job_answer job = option_map_or unbuilt_answer (first_unbuilt job) (record { status = job_status job; text = job_text job })

-- the answer to a job that is only read: how many commands it has, fences among them, and how many trees
abbrev pub check_answer : JobData → Answer
check_answer job = record {
  status = done;
  text = codes "ok commands " ++ decimal (length job.commands) ++ codes " trees " ++ decimal (trees_behind [] job.commands) ++ codes "\n";
}

-- the job that the bytes of an input are, or the line that says why they are none
abbrev pub job_or_line : Result JobData JobFault → Result JobData (List ℕ)
job_or_line (Ok job) = Ok job
job_or_line (Err fault) = Err (fault_line fault ++ codes "\n")

abbrev pub input_reading : List ℕ → Result JobData (List ℕ)
input_reading bytes = if nat_lt max_input (length bytes) then Err (codes "fault too long\n") else job_or_line (reading_of bytes)

-- the answer to an input: to the job, or the line
abbrev pub reading_answer : (JobData → Answer) → Result JobData (List ℕ) → Answer
reading_answer answer (Ok job) = answer job
reading_answer answer (Err line) = record { status = job_fault; text = line }

abbrev pub input_answer : (JobData → Answer) → List ℕ → Answer
input_answer answer bytes = reading_answer answer (input_reading bytes)

-- the answer to a request on the bytes of an input; how a job is run plays no part, and a generated job needs no input
abbrev pub answer_to : Request → List ℕ → Answer
answer_to (Run ranks workers map) bytes = input_answer run_job_answer bytes
answer_to (Serial ranks map receipts) bytes = input_answer (serial_job_answer (by_map map ranks) receipts) bytes
answer_to Check bytes = input_answer check_answer bytes
answer_to (BigJob number) bytes = record { status = done; text = canonical_text (big_job number) }

-- whether a request has an input
abbrev pub has_input : Request → Bool
has_input (BigJob number) = false
has_input (Run ranks workers map) = true
has_input (Serial ranks map receipts) = true
has_input Check = true

-- these bytes are what a source told as left, where it tells
abbrev pub Tells : Option (List ℕ) → List ℕ → Type 0
Tells left bytes = MatchOption left ⊤ (λ told. told ≡ bytes)

-- the sink took all of the answer with this status to what the words ask for, on the bytes that the source told
pub record IsAnswered (words : List (List ℕ)) (with_status : ℕ) (left before now : Option (List ℕ)) : Type 0 where
  pub request : Request
  pub asked : request_of words ≡ Some request
  pub bytes : List ℕ
  pub told : Tells left bytes
  pub status : (answer_to request bytes).status ≡ with_status
  pub written : Appends before now (answer_to request bytes).text

-- the sink took a prefix of some text
pub record IsCut (text : List ℕ) (before now : Option (List ℕ)) : Type 0 where
  pub count : ℕ
  pub within : count ≤ length text
  pub written : Appends before now (take count text)

-- the sink took a prefix of the answer to what the words ask for, on the bytes that the source told
pub record IsCutAnswer (words : List (List ℕ)) (left before now : Option (List ℕ)) : Type 0 where
  pub request : Request
  pub asked : request_of words ≡ Some request
  pub bytes : List ℕ
  pub told : Tells left bytes
  pub cut : IsCut (answer_to request bytes).text before now

-- a text with its status answers the request on the bytes that the source told
pub record Answers (request : Request) (left : Option (List ℕ)) (with_status : ℕ) (with_text : List ℕ) : Type 0 where
  pub bytes : List ℕ
  pub told : Tells left bytes
  pub status : (answer_to request bytes).status ≡ with_status
  pub text : (answer_to request bytes).text ≡ with_text

-- a text was written whole, with its status; or a prefix of it, where the sink's count rose
abbrev pub IsFinished : (result with_status : ℕ) (text : List ℕ) (before now : Option (List ℕ)) (faults_before faults_now : ℕ) → Type 0
IsFinished result with_status text before now faults_before faults_now =
    ((result ≡ with_status) × Appends before now text) ⊎ ((result ≡ write_fault) × (Rose faults_before faults_now × IsCut text before now))
