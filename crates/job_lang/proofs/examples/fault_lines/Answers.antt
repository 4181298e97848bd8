use Rattle.std.proofs.Common.{refl}
use Rattle.std.specs.Fmt.{digits}
use Rattle.job_lang.proofs.examples.fault_lines.Goals as goal

pub returns-clause-command : goal.returns-clause-command
unfolding digits
returns-clause-command c = refl

pub returns-clause-byte : goal.returns-clause-byte
unfolding digits
returns-clause-byte c = refl

pub returns-clause-words : goal.returns-clause-words
unfolding digits
returns-clause-words c = refl

pub returns-clause-limit : goal.returns-clause-limit
unfolding digits
returns-clause-limit c = refl

pub returns-clause-tree : goal.returns-clause-tree
unfolding digits
returns-clause-tree c = refl

pub returns-clause-form : goal.returns-clause-form
unfolding digits
returns-clause-form c = refl

pub returns-clause-fence : goal.returns-clause-fence
unfolding digits
returns-clause-fence c = refl

pub returns-clause-size : goal.returns-clause-size
unfolding digits
returns-clause-size c = refl

pub returns-clause-header : goal.returns-clause-header
unfolding digits
returns-clause-header c = refl
