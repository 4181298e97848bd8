use Rattle.event_lists.proofs.ReceiptLemmas.{change_none, done_none}
use Rattle.event_lists.proofs.laws.nothing_changes_up_to_the_receipt.Goals as goal

pub returns-clause-counts : goal.returns-clause-counts
returns-clause-counts c = λ ranks workers before x r p h at to done k q. change_none ranks workers before x r p h at to done k q

pub returns-clause-events : goal.returns-clause-events
returns-clause-events c = λ ranks workers before x r p h at done y earlier from to. done_none ranks workers before x r p h at done y earlier from to
