use Rattle.haar_units.specs.Bins.{is_held}
use Rattle.haar_units.proofs.BinLemmas.{bins_held, different}
use Rattle.haar_units.proofs.laws.bins_are_held.Goals as goal

pub returns-clause-bins : goal.returns-clause-bins
returns-clause-bins g c = λ app job within traversal bound version command writer k exact workers task_effects log before x r run has early. bins_held (g.A.Facts.may_do app) job within traversal bound version command writer k exact workers task_effects log before x r run has early

pub returns-clause-different : goal.returns-clause-different
returns-clause-different g c = λ job traversal bound rank version. different (is_held job traversal rank version) bound
