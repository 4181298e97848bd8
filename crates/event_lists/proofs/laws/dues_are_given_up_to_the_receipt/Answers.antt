use Rattle.event_lists.proofs.ReceiptLemmas.{dues_given}
use Rattle.event_lists.proofs.laws.dues_are_given_up_to_the_receipt.Goals as goal

pub returns : goal.returns
returns c = λ ranks workers before x r p h i f e. dues_given ranks workers before x r p h i f e
