use Rattle.std.proofs.Common.{refl}
use Rattle.std.specs.Fmt.{digits}
use Rattle.tree_totals.proofs.examples.receipts_over_four_blocks.Goals as goal

pub returns : goal.returns
unfolding digits
returns c = refl
