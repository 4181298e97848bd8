use Rattle.event_lists.proofs.CountLemmas.{on_below, same_event}
use Rattle.event_lists.proofs.lasting.numbers_are_below_counts.Goals as goal

pub returns-clause-below : goal.returns-clause-below
returns-clause-below c = λ ranks workers log h k n l e i s. on_below ranks workers log h k n l e i s

pub returns-clause-name : goal.returns-clause-name
returns-clause-name c = λ ranks workers log h k n l m d e i j r s t. same_event ranks workers log h k n l m d e i j r s t
