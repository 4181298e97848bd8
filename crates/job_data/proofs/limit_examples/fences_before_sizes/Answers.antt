use Rattle.std.proofs.Common.{refl}
use Rattle.job_data.proofs.limit_examples.fences_before_sizes.Goals as goal

pub returns-clause-none : goal.returns-clause-none
returns-clause-none c = refl

pub returns-clause-fence : goal.returns-clause-fence
returns-clause-fence c = refl

pub returns-clause-fence_before : goal.returns-clause-fence_before
returns-clause-fence_before c = refl

pub returns-clause-written_again : goal.returns-clause-written_again
returns-clause-written_again c = refl

pub returns-clause-fenced_again : goal.returns-clause-fenced_again
returns-clause-fenced_again c = refl

pub returns-clause-other_tree : goal.returns-clause-other_tree
returns-clause-other_tree c = refl

pub returns-clause-printed : goal.returns-clause-printed
returns-clause-printed c = refl
