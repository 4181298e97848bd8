use Rattle.std.proofs.Common.{refl}
use Rattle.std.specs.Fmt.{digits}
use Rattle.tree_model.proofs.receipt_examples.receipts_before_an_overflow.Goals as goal

pub returns : goal.returns
unfolding digits
returns c = refl
