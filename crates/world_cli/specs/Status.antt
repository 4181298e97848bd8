-- The number of a status.
use Rattle.std.specs.Prelude.{ℕ}
use Rattle.world_cli.specs.Answers.{done, usage, job_fault, overflow, out_of_memory, read_fault, write_fault}
use Rattle.world_cli.specs.declared.status.Status.{Status}
use Rattle.world_cli.specs.declared.status.Status.TheVariants.{Done, Usage, JobFault, Overflow, OutOfMemory, ReadFault, WriteFault}

abbrev pub code_of : Status → ℕ
code_of Done = done
code_of Usage = usage
code_of JobFault = job_fault
code_of Overflow = overflow
code_of OutOfMemory = out_of_memory
code_of ReadFault = read_fault
code_of WriteFault = write_fault
