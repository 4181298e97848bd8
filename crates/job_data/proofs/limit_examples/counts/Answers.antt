use Rattle.std.proofs.Common.{refl}
use Rattle.job_data.proofs.limit_examples.counts.Goals as goal

pub returns-clause-last_command : goal.returns-clause-last_command
returns-clause-last_command c = refl

pub returns-clause-commands : goal.returns-clause-commands
returns-clause-commands c = refl

pub returns-clause-last_print : goal.returns-clause-last_print
returns-clause-last_print c = refl

pub returns-clause-prints : goal.returns-clause-prints
returns-clause-prints c = refl

pub returns-clause-last_near : goal.returns-clause-last_near
returns-clause-last_near c = refl

pub returns-clause-near : goal.returns-clause-near
returns-clause-near c = refl

pub returns-clause-fence : goal.returns-clause-fence
returns-clause-fence c = refl
