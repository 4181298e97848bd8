use Rattle.std.proofs.Common.{refl}
use Rattle.std.specs.Fmt.{digits}
use Rattle.tree_model.proofs.receipt_examples.receipt_of_no_command.Goals as goal

pub returns-clause-with : goal.returns-clause-with
unfolding digits
returns-clause-with c = refl
