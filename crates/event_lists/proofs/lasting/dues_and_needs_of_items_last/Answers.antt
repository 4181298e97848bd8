use Rattle.event_lists.proofs.FutureLemmas.{needs_last, due_lasts}
use Rattle.event_lists.proofs.lasting.dues_and_needs_of_items_last.Goals as goal

pub returns-clause-dues : goal.returns-clause-dues
returns-clause-dues c = λ ranks workers old log h b k m. due_lasts ranks workers old log h b k m

pub returns-clause-needs : goal.returns-clause-needs
returns-clause-needs c = λ ranks workers old log h b k m. needs_last ranks workers old log h b k m
