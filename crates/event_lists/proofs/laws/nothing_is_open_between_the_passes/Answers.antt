use Rattle.event_lists.proofs.ReceiptLemmas.{open_none}
use Rattle.event_lists.proofs.laws.nothing_is_open_between_the_passes.Goals as goal

pub returns : goal.returns
returns c = λ ranks workers before x r p h at to done i. open_none ranks workers before x r p h at to done i
