use Rattle.event_lists.proofs.NameLemmas.{all_named, needs_named}
use Rattle.event_lists.proofs.laws.futures_have_their_names.Goals as goal

pub returns-clause-dues : goal.returns-clause-dues
returns-clause-dues c = λ ranks workers log h l e i m s. all_named ranks workers log h l e i m s

pub returns-clause-needs : goal.returns-clause-needs
returns-clause-needs c = λ ranks workers log h l n t s. needs_named ranks workers log h l n t s
