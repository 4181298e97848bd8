use Rattle.std.proofs.Common.{◌∙◌, ap, ◌+ℤ◌, ◌*ℤ◌}
use Rattle.haar_node.proofs.WeightedSumLemmas.{exact}
use Rattle.haar_base.specs.Numbers.{coefficient}
use Rattle.haar_visits.proofs.adding.weighted.Goals as goal

pub overflow_add-factors : goal.overflow_add-factors
overflow_add-factors c =
    (exact c.args.factors.left c.get-left.result c.args.factors.right c.get-right.result c.requires.left c.get-left.ensures.bound c.requires.right c.get-right.ensures.bound).fits

pub returns : goal.returns
returns c =
    c.coefficient.ensures
    ∙ ap coefficient (exact c.args.factors.left c.get-left.result c.args.factors.right c.get-right.result c.requires.left c.get-left.ensures.bound c.requires.right c.get-right.ensures.bound).sum
    ∙ (λ i. coefficient (c.args.factors.left *ℤ c.get-left.ensures.value i +ℤ c.args.factors.right *ℤ c.get-right.ensures.value i))
