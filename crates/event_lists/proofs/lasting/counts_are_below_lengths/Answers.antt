use Rattle.event_lists.proofs.SumLemmas.{count_below_lengths, count_bounded}
use Rattle.event_lists.proofs.lasting.counts_are_below_lengths.Goals as goal

pub returns-clause-sum : goal.returns-clause-sum
returns-clause-sum c = λ ranks workers log h k r. count_below_lengths ranks workers log h k r

pub returns-clause-bound : goal.returns-clause-bound
returns-clause-bound c = λ ranks workers m log h short k r. count_bounded ranks workers m log h short k r
