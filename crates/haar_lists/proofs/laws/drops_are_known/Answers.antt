use Rattle.haar_lists.specs.Lists.{distribution}
use Rattle.haar_lists.proofs.DropLemmas.{drops_same, drops_once, each_dropped, dropped_written, dropped_unread, dropped_uncounted}
use Rattle.haar_lists.proofs.laws.drops_are_known.Goals as goal

pub returns-clause-units : goal.returns-clause-units
returns-clause-units c = λ job fence. drops_same (distribution job) job.commands fence

pub returns-clause-written : goal.returns-clause-written
returns-clause-written c = λ job fence version planned drops. dropped_written job planned fence version drops

pub returns-clause-once : goal.returns-clause-once
returns-clause-once c = λ job fence other index place version one two. drops_once job fence other index place version one two

pub returns-clause-all : goal.returns-clause-all
returns-clause-all c = λ job fence version command planned writes early unread. each_dropped job planned fence version command writes early unread

pub returns-clause-unread : goal.returns-clause-unread
returns-clause-unread c = λ job fence label entry planned drops may. dropped_unread job planned fence label entry drops may

pub returns-clause-uncounted : goal.returns-clause-uncounted
returns-clause-uncounted c = λ job fence label version planned drops may. dropped_uncounted job planned fence label version drops may
