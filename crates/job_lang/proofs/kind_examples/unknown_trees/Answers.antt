use Rattle.std.proofs.Common.{refl}
use Rattle.job_lang.proofs.kind_examples.unknown_trees.Goals as goal

pub returns-clause-first : goal.returns-clause-first
returns-clause-first c = refl

pub returns-clause-second : goal.returns-clause-second
returns-clause-second c = refl

pub returns-clause-only : goal.returns-clause-only
returns-clause-only c = refl
