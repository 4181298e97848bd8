use Rattle.std.proofs.Common.{refl}
use Rattle.job_words.proofs.examples.names.Goals as goal

pub returns-clause-longest : goal.returns-clause-longest
returns-clause-longest c = refl

pub returns-clause-too_long : goal.returns-clause-too_long
returns-clause-too_long c = refl

pub returns-clause-digit_first : goal.returns-clause-digit_first
returns-clause-digit_first c = refl

pub returns-clause-capital : goal.returns-clause-capital
returns-clause-capital c = refl

pub returns-clause-empty : goal.returns-clause-empty
returns-clause-empty c = refl

pub returns-clause-ends : goal.returns-clause-ends
returns-clause-ends c = refl

pub returns-clause-last_first : goal.returns-clause-last_first
returns-clause-last_first c = refl

pub returns-clause-below_a : goal.returns-clause-below_a
returns-clause-below_a c = refl

pub returns-clause-above_z : goal.returns-clause-above_z
returns-clause-above_z c = refl

pub returns-clause-below_0 : goal.returns-clause-below_0
returns-clause-below_0 c = refl

pub returns-clause-above_9 : goal.returns-clause-above_9
returns-clause-above_9 c = refl

pub returns-clause-below_underscore : goal.returns-clause-below_underscore
returns-clause-below_underscore c = refl

pub returns-clause-below_a_first : goal.returns-clause-below_a_first
returns-clause-below_a_first c = refl

pub returns-clause-above_z_first : goal.returns-clause-above_z_first
returns-clause-above_z_first c = refl

pub returns-clause-underscore_first : goal.returns-clause-underscore_first
returns-clause-underscore_first c = refl
