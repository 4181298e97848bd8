use Rattle.event_lists.proofs.OwnLemmas.{own_dues, own_needs, needs_dues_here}
use Rattle.event_lists.proofs.lasting.spawns_are_own.Goals as goal

pub returns-clause-dues : goal.returns-clause-dues
returns-clause-dues c = λ ranks workers log h l b s d old begins. own_dues ranks workers log h l b s d old begins

pub returns-clause-needs : goal.returns-clause-needs
returns-clause-needs c = λ ranks workers log h l b s d old begins. own_needs ranks workers log h l b s d old begins

pub returns-clause-needs_and_dues : goal.returns-clause-needs_and_dues
returns-clause-needs_and_dues c = λ ranks workers log h l b s. needs_dues_here ranks workers log h l b s
