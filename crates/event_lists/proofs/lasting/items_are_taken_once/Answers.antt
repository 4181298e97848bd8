use Rattle.event_lists.proofs.ItemLemmas.{took_fresh, taken_once, one_taker, some_taker}
use Rattle.event_lists.proofs.HandLemmas.{hand_taken, hand_taken_on, hand_made}
use Rattle.event_lists.proofs.lasting.items_are_taken_once.Goals as goal

pub returns-clause-once : goal.returns-clause-once
returns-clause-once c = λ ranks workers log h k. taken_once ranks workers log h k

pub returns-clause-some_taker : goal.returns-clause-some_taker
returns-clause-some_taker c = λ log k t. some_taker k log t

pub returns-clause-one_taker : goal.returns-clause-one_taker
returns-clause-one_taker c = λ ranks workers log h l m k s t. one_taker ranks workers log h l m k s t

pub returns-clause-waits : goal.returns-clause-waits
returns-clause-waits c = λ ranks log l mine e a k t. took_fresh k e ranks log l mine a t

pub returns-clause-hands : goal.returns-clause-hands
returns-clause-hands c = λ ranks workers log h l k i. (hand_made ranks workers log h l k i, hand_taken l log k i, hand_taken_on l log k i)
