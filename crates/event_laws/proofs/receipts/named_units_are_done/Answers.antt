use Rattle.std.proofs.Common.{◌≡◌, true}
use Rattle.event_laws.specs.Follows.{program_from}
use Rattle.event_laws.proofs.UnitLemmas.{unit_done, task_is, units_lie}
use Rattle.event_laws.proofs.receipts.named_units_are_done.Goals as goal

pub returns-clause-units : goal.returns-clause-units
returns-clause-units g c = λ app stage test plan home us staged units workers task_effects log before x r run has of_fence. (
  (λ u is. unit_done (g.A.Facts.ranks_of app) workers (program_from 1 (g.A.Facts.kinds_of app) (g.A.Facts.starts_of app)) (g.A.Facts.may_do app) task_effects log before x r run has stage staged (λ u. test u ≡ true) of_fence plan home us units u is),
  (λ rank number t s is. task_is (g.A.Facts.ranks_of app) workers (program_from 1 (g.A.Facts.kinds_of app) (g.A.Facts.starts_of app)) (g.A.Facts.may_do app) task_effects log before x r run has stage staged (λ u. test u ≡ true) of_fence plan home us units rank number t s is),
)

pub returns-clause-entries : goal.returns-clause-entries
returns-clause-entries g c = λ app stage test plan home us staged units workers task_effects log before x r run has of_fence apart c writes l.
    units_lie (g.A.Facts.ranks_of app) workers (program_from 1 (g.A.Facts.kinds_of app) (g.A.Facts.starts_of app)) (g.A.Facts.may_do app) task_effects log before x r run has stage staged (λ u. test u ≡ true) of_fence plan home us units apart c writes l
