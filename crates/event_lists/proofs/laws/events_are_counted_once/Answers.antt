use Rattle.event_lists.specs.declared.mark.Item.TheVariants.{Message, Task}
use Rattle.event_lists.proofs.ItemLemmas.{made_once}
use Rattle.event_lists.proofs.WaitingLemmas.{ended_le}
use Rattle.event_lists.proofs.GiveLemmas.{given_once}
use Rattle.event_lists.proofs.laws.events_are_counted_once.Goals as goal

pub returns-clause-messages : goal.returns-clause-messages
returns-clause-messages c = λ r n ranks workers log h. (ended_le (Message r n) ranks workers log h, made_once ranks workers log h (Message r n))

pub returns-clause-tasks : goal.returns-clause-tasks
returns-clause-tasks c = λ r n ranks workers log h. (ended_le (Task r n) ranks workers log h, made_once ranks workers log h (Task r n))

pub returns-clause-futures : goal.returns-clause-futures
returns-clause-futures c = λ ranks workers log h f. given_once ranks workers log h f
