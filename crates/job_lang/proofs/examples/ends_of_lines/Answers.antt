use Rattle.std.proofs.Common.{refl}
use Rattle.job_lang.proofs.examples.ends_of_lines.Goals as goal

pub returns-clause-return_at_end : goal.returns-clause-return_at_end
returns-clause-return_at_end c = refl

pub returns-clause-return_before_feed : goal.returns-clause-return_before_feed
returns-clause-return_before_feed c = refl

pub returns-clause-return_within : goal.returns-clause-return_within
returns-clause-return_within c = refl
