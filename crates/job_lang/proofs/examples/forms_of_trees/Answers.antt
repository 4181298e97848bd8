use Rattle.std.proofs.Common.{refl}
use Rattle.job_lang.proofs.examples.forms_of_trees.Goals as goal

pub returns-clause-sum_over_itself : goal.returns-clause-sum_over_itself
returns-clause-sum_over_itself c = refl

pub returns-clause-refined_in_compressed_form : goal.returns-clause-refined_in_compressed_form
returns-clause-refined_in_compressed_form c = refl

pub returns-clause-turned_back : goal.returns-clause-turned_back
returns-clause-turned_back c = refl

pub returns-clause-factor_too_large : goal.returns-clause-factor_too_large
returns-clause-factor_too_large c = refl
