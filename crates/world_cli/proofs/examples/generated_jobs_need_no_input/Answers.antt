use Rattle.std.proofs.Common.{refl}
use Rattle.std.specs.Fmt.{digits}
use Rattle.world_cli.proofs.examples.generated_jobs_need_no_input.Goals as goal

pub returns-clause-input : goal.returns-clause-input
returns-clause-input c = refl

pub returns-clause-answer : goal.returns-clause-answer
unfolding digits
returns-clause-answer c = refl
