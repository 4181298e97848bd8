use Rattle.haar_results.proofs.JobTextLemmas.{right_results_text}
use Rattle.haar_results.proofs.laws.right_results_make_the_text.Goals as goal

pub returns : goal.returns
returns c = right_results_text
