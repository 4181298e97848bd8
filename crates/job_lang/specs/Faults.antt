-- The text of a fault.
use Rattle.std.specs.Prelude.{ℕ, List, ◌++◌, codes, decimal}
use Rattle.job_data.specs.FaultKinds.{kind_number, kind_text}
use Rattle.job_lang.specs.declared.fault.JobFault.{JobFault}
use Rattle.job_lang.specs.declared.parse_error.ParseError.{ParseError}
use Rattle.job_lang.specs.declared.parse_error.ParseError.TheVariants.{Fault, OutOfMemory}

-- the line of a fault, without a line feed
abbrev pub fault_line : JobFault → List ℕ
fault_line fault = codes "fault line " ++ decimal fault.line ++ codes " F" ++ decimal (kind_number fault.kind) ++ codes " " ++ kind_text fault.kind

-- the text that says why a text gave no job
abbrev pub error_text : ParseError → List ℕ
error_text (Fault fault) = fault_line fault
error_text OutOfMemory = codes "out of memory"
