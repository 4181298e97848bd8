use Rattle.std.proofs.Common.{refl}
use Rattle.std.specs.Fmt.{digits}
use Rattle.world_cli.proofs.examples.receipts_of_two_ranks.Goals as goal

pub returns : goal.returns
unfolding digits
returns c = refl
