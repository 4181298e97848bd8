use Rattle.std.proofs.Common.{refl}
use Rattle.job_lang.proofs.examples.headers.Goals as goal

pub returns-clause-alone : goal.returns-clause-alone
returns-clause-alone c = refl

pub returns-clause-too_deep : goal.returns-clause-too_deep
returns-clause-too_deep c = refl

pub returns-clause-negative : goal.returns-clause-negative
returns-clause-negative c = refl

pub returns-clause-other_version : goal.returns-clause-other_version
returns-clause-other_version c = refl

pub returns-clause-one_word_more : goal.returns-clause-one_word_more
returns-clause-one_word_more c = refl

pub returns-clause-only_comments : goal.returns-clause-only_comments
returns-clause-only_comments c = refl
