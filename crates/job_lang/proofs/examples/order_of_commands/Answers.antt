use Rattle.std.proofs.Common.{refl}
use Rattle.job_lang.proofs.examples.order_of_commands.Goals as goal

pub returns-clause-written_twice : goal.returns-clause-written_twice
returns-clause-written_twice c = refl

pub returns-clause-printed_before : goal.returns-clause-printed_before
returns-clause-printed_before c = refl

pub returns-clause-first_fault : goal.returns-clause-first_fault
returns-clause-first_fault c = refl
