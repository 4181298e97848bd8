use Rattle.std.proofs.Common.{refl}
use Rattle.job_lang.proofs.examples.foreign_bytes.Goals as goal

pub returns-clause-in_header : goal.returns-clause-in_header
returns-clause-in_header c = refl

pub returns-clause-in_a_command : goal.returns-clause-in_a_command
returns-clause-in_a_command c = refl

pub returns-clause-last_printable : goal.returns-clause-last_printable
returns-clause-last_printable c = refl

pub returns-clause-delete : goal.returns-clause-delete
returns-clause-delete c = refl

pub returns-clause-in_a_comment : goal.returns-clause-in_a_comment
returns-clause-in_a_comment c = refl
