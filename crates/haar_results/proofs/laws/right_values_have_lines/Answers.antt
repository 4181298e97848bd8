use Rattle.haar_results.proofs.ResultLemmas.{right_values_lines, right_overflows_bad}
use Rattle.haar_results.proofs.laws.right_values_have_lines.Goals as goal

pub returns : goal.returns
returns c = record { before = right_values_lines; at = right_overflows_bad }
