use Rattle.event_lists.proofs.ItemLemmas.{new_item, made_once, untaken_new}
use Rattle.event_lists.proofs.lasting.items_are_made_once.Goals as goal

pub returns-clause-once : goal.returns-clause-once
returns-clause-once c = λ ranks workers log h k. made_once ranks workers log h k

pub returns-clause-new : goal.returns-clause-new
returns-clause-new c = λ ranks workers log x h k m. (new_item ranks workers log x h k m, untaken_new ranks workers log x h k m)
