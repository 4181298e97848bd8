use Rattle.std.proofs.Common.{refl}
use Rattle.std.specs.Fmt.{digits}
use Rattle.world_cli.proofs.examples.ramp_on_more_ranks.Goals as goal

pub returns-clause-two : goal.returns-clause-two
unfolding digits
returns-clause-two c = refl

pub returns-clause-sixteen : goal.returns-clause-sixteen
unfolding digits
returns-clause-sixteen c = refl
