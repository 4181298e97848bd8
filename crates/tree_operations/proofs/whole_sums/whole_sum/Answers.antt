use Rattle.std.proofs.Common.{rules, ◌∙◌}
use Rattle.tree_operations.proofs.StoredNumberLemmas.{passed}
use Rattle.tree_operations.proofs.WholeSumLemmas.{whole_from_above, whole_from_number}
use Rattle.tree_operations.proofs.whole_sums.whole_sum.Goals as goal

pub returns-in-Some : goal.returns-in-Some
returns-in-Some c = λ t keeps is. rw (passed c.in-Some.sum (search rules)) (whole_from_above t c.args.leaves.now c.args.key c.in-Some.sum keeps (rw c.in-Some.is at is))

pub returns-in-None : goal.returns-in-None
returns-in-None c = λ t keeps is. c.number_at.ensures ∙ whole_from_number t c.args.leaves.now c.args.key keeps (rw c.in-None.is at is)
