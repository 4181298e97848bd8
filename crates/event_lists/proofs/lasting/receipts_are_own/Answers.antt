use Rattle.event_lists.proofs.FenceLemmas.{receipt_on}
use Rattle.event_lists.proofs.ReceiptOrderLemmas.{receipt_on_main, one_receipt, receipts_in_order}
use Rattle.event_lists.proofs.lasting.receipts_are_own.Goals as goal

pub returns-clause-lane : goal.returns-clause-lane
returns-clause-lane c = λ ranks workers log h l r s. receipt_on_main ranks workers log h l r s

pub returns-clause-found : goal.returns-clause-found
returns-clause-found c = λ ranks workers log h f. receipt_on ranks workers log h f

pub returns-clause-order : goal.returns-clause-order
returns-clause-order c = λ ranks workers log x h r i f. receipts_in_order ranks workers log x h r i f

pub returns-clause-one : goal.returns-clause-one
returns-clause-one c = λ ranks workers log h l m r s e a b. one_receipt ranks workers log h l m r s e a b
