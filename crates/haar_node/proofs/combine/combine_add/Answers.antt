use Rattle.std.proofs.Common.{refl, ap, ◌∙◌, arith}
use Rattle.std.specs.Int.RustNames.{unsigned_abs}
use Rattle.haar_node.proofs.WeightedSumLemmas.{exact}
use Rattle.haar_node.proofs.combine.combine_add.Goals as goal

pub overflow_add-sum : goal.overflow_add-sum
overflow_add-sum c =
    (exact c.args.left_factor c.args.left c.args.right_factor c.args.right c.requires.left_factor c.requires.left c.requires.right_factor c.requires.right).fits

pub returns-clause-sum : goal.returns-clause-sum
returns-clause-sum c =
    (exact c.args.left_factor c.args.left c.args.right_factor c.args.right c.requires.left_factor c.requires.left c.requires.right_factor c.requires.right).sum

pub returns-clause-over : goal.returns-clause-over
returns-clause-over c =
    let sum = (exact c.args.left_factor c.args.left c.args.right_factor c.args.right c.requires.left_factor c.requires.left c.requires.right_factor c.requires.right).sum in
    let size = (c.unsigned_abs.ensures.value ∙ ap unsigned_abs sum) in
    (λ err. absurd (cc), λ over. absurd (omega arith))

pub returns-then-unsigned_abs-from-clause-over : goal.returns-then-unsigned_abs-from-clause-over
returns-then-unsigned_abs-from-clause-over c =
    let sum = (exact c.args.left_factor c.args.left c.args.right_factor c.args.right c.requires.left_factor c.requires.left c.requires.right_factor c.requires.right).sum in
    let size = (c.unsigned_abs.ensures.value ∙ ap unsigned_abs sum) in
    (λ err. omega arith, λ over. refl)
