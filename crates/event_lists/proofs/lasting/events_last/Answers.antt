use Rattle.event_lists.specs.declared.event.Event.TheVariants.{Sent, Submitted}
use Rattle.event_lists.proofs.CountLemmas.{count_begins}
use Rattle.event_lists.proofs.ListLemmas.{on_begins}
use Rattle.event_lists.proofs.ItemLemmas.{taken_lasts}
use Rattle.event_lists.proofs.FutureLemmas.{gives_last}
use Rattle.event_lists.proofs.FenceLemmas.{receipt_lasts}
use Rattle.event_lists.proofs.lasting.events_last.Goals as goal

pub returns-clause-events : goal.returns-clause-events
returns-clause-events c = λ old log b l e s. on_begins l e old log b s

pub returns-clause-messages : goal.returns-clause-messages
returns-clause-messages c = λ old log b r n to p (l, i, s). (l, i, on_begins l (Sent n to p) old log b s)

pub returns-clause-submissions : goal.returns-clause-submissions
returns-clause-submissions c = λ old log b r n t (l, i, s). (l, i, on_begins l (Submitted n t) old log b s)

pub returns-clause-takes : goal.returns-clause-takes
returns-clause-takes c = λ old log b k t. taken_lasts old log b k t

pub returns-clause-gives : goal.returns-clause-gives
returns-clause-gives c = λ old log b f. gives_last old log b f

pub returns-clause-counts : goal.returns-clause-counts
returns-clause-counts c = λ old log b k r. count_begins k r old log b

pub returns-clause-receipts : goal.returns-clause-receipts
returns-clause-receipts c = λ old log b f t. receipt_lasts old log b f t
