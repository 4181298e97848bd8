use Rattle.std.proofs.Common.{refl}
use Rattle.job_lang.proofs.examples.lowest_kinds.Goals as goal

pub returns-clause-byte_before_command : goal.returns-clause-byte_before_command
returns-clause-byte_before_command c = refl

pub returns-clause-words_before_limit : goal.returns-clause-words_before_limit
returns-clause-words_before_limit c = refl

pub returns-clause-limit_before_tree : goal.returns-clause-limit_before_tree
returns-clause-limit_before_tree c = refl

pub returns-clause-tree_before_form : goal.returns-clause-tree_before_form
returns-clause-tree_before_form c = refl

pub returns-clause-wrong_form : goal.returns-clause-wrong_form
returns-clause-wrong_form c = refl
