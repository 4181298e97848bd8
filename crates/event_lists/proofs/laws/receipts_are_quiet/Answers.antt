use Rattle.event_lists.proofs.ReceiptLemmas.{quiet}
use Rattle.event_lists.proofs.laws.receipts_are_quiet.Goals as goal

pub returns : goal.returns
returns c = λ ranks workers whole before x r h to e. quiet ranks workers whole before x r h to e
