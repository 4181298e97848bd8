use Rattle.haar_results.proofs.PrintedLemmas.{tree_lines_printed}
use Rattle.haar_results.proofs.laws.tree_lines_are_printed.Goals as goal

pub returns : goal.returns
returns c = tree_lines_printed
