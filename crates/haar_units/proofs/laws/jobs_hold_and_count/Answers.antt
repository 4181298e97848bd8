use Rattle.haar_units.proofs.JobLawLemmas.{job_bins_held, job_receipts_serial}
use Rattle.haar_units.proofs.laws.jobs_hold_and_count.Goals as goal

pub returns-clause-bins : goal.returns-clause-bins
returns-clause-bins g c = λ app distribution depth commands within number version at exact workers task_effects log before x r run has early.
    job_bins_held (g.A.Facts.may_do app) distribution depth commands within number version at exact workers task_effects log before x r run has early

pub returns-clause-totals : goal.returns-clause-totals
returns-clause-totals g c = λ app distribution depth commands within one root workers task_effects log before x r run has each exact.
    job_receipts_serial (g.A.Facts.may_do app) distribution depth commands within one root workers task_effects log before x r run has each exact
