use Rattle.std.proofs.Common.{refl}
use Rattle.job_lang.proofs.examples.limits.Goals as goal

pub returns-clause-steepest : goal.returns-clause-steepest
returns-clause-steepest c = refl

pub returns-clause-too_steep : goal.returns-clause-too_steep
returns-clause-too_steep c = refl

pub returns-clause-smallest : goal.returns-clause-smallest
returns-clause-smallest c = refl

pub returns-clause-too_small : goal.returns-clause-too_small
returns-clause-too_small c = refl

pub returns-clause-level_above_depth : goal.returns-clause-level_above_depth
returns-clause-level_above_depth c = refl

pub returns-clause-negative_tolerance : goal.returns-clause-negative_tolerance
returns-clause-negative_tolerance c = refl

pub returns-clause-negative_zero : goal.returns-clause-negative_zero
returns-clause-negative_zero c = refl
