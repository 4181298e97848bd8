use Rattle.haar_units.proofs.DropLemmas.{dropped_is_written, dropped_stays_unread, drops_come_once, used_up_is_dropped}
use Rattle.haar_units.proofs.laws.versions_are_dropped_once.Goals as goal

pub returns-clause-written : goal.returns-clause-written
returns-clause-written c = λ job reads fence version h. dropped_is_written job reads fence version h

pub returns-clause-unread : goal.returns-clause-unread
returns-clause-unread c = λ job reads fence version command operation h at r. dropped_stays_unread job reads fence version command operation h at r

pub returns-clause-once : goal.returns-clause-once
returns-clause-once c = λ job reads fence other index place version e f. drops_come_once job reads fence other index place version e f

pub returns-clause-all : goal.returns-clause-all
returns-clause-all c = λ job reads fence version e. used_up_is_dropped job reads fence version e
