use Rattle.haar_lists.proofs.ListLawLemmas.{bins_hold, totals_told}
use Rattle.haar_lists.proofs.laws.bins_and_receipts_are_known.Goals as goal

pub returns-clause-bins : goal.returns-clause-bins
returns-clause-bins c = λ job planned task_effects log before workers x r version command run has writes sound early. bins_hold job planned task_effects log before workers x r version command run has writes sound early

pub returns-clause-receipts : goal.returns-clause-receipts
returns-clause-receipts c = λ job planned task_effects log before workers x r run has sound. totals_told job planned task_effects log before workers x r run has sound
