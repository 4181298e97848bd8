use Rattle.event_lists.proofs.ReceiptLemmas.{frozen}
use Rattle.event_lists.proofs.laws.counts_are_frozen.Goals as goal

pub returns : goal.returns
returns c = λ ranks workers before x r p h q b. frozen ranks workers before x r p h q b
