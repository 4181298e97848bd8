use Rattle.std.proofs.Common.{refl}
use Rattle.std.specs.Fmt.{digits}
use Rattle.world_cli.proofs.examples.commands_that_cannot_be_run_yet.Goals as goal

pub returns-clause-run : goal.returns-clause-run
unfolding digits
returns-clause-run c = refl

pub returns-clause-serial : goal.returns-clause-serial
unfolding digits
returns-clause-serial c = refl
