use Rattle.std.proofs.Common.{rules, refl, ◌+ℤ◌, ◌*ℤ◌}
use Rattle.tree_operations.proofs.AddingLemmas.{leaf_within, leaf_above, small_sum, within_from, factor_fits}
use Rattle.tree_operations.proofs.StoredNumberLemmas.{passed}
use Rattle.tree_operations.proofs.adding.Addends.check_leaf.Goals as goal

pub combine_add-requires-clause-left : goal.combine_add-requires-clause-left
combine_add-requires-clause-left c = rw (passed c.args.sums.left (search rules)) (small_sum c.requires.0 c.args.key c.args.sums.left c.requires.2.kept.first.sound c.requires.2.first_sum)

pub combine_add-requires-clause-right : goal.combine_add-requires-clause-right
combine_add-requires-clause-right c = rw (passed c.args.sums.right (search rules)) (small_sum c.requires.1 c.args.key c.args.sums.right c.requires.2.kept.second.sound c.requires.2.second_sum)

pub returns-in-Ok-clause-within : goal.returns-in-Ok-clause-within
returns-in-Ok-clause-within c = λ f g at none.
    let a = c.args.self.now.left_factor in
    let b = c.args.self.now.right_factor in
    let l = c.args.sums.left in
    let r = c.args.sums.right in
    let no_more = rw (passed a (factor_fits a c.args.self.now.left_is_small), passed b (factor_fits b c.args.self.now.right_is_small), passed l (search rules), passed r (search rules)) at c.in-Ok.ensures.over.1 in
    let within = within_from c.width-cells.result (a *ℤ l +ℤ b *ℤ r) no_more in
    leaf_within a f b g c.args.self.now.left.now c.args.self.now.right.now c.args.self.now.depth c.args.key l r at none (rw c.width-cells.ensures.value at within)

pub returns-in-Err-clause-over : goal.returns-in-Err-clause-over
returns-in-Err-clause-over c = λ is f g at none.
    let a = c.args.self.now.left_factor in
    let b = c.args.self.now.right_factor in
    let l = c.args.sums.left in
    let r = c.args.sums.right in
    let over = rw (passed a (factor_fits a c.args.self.now.left_is_small), passed b (factor_fits b c.args.self.now.right_is_small), passed l (search rules), passed r (search rules)) at (c.in-Err.ensures.over.0 refl) in
    leaf_above a f b g c.args.self.now.left.now c.args.self.now.right.now c.args.self.now.depth c.args.key l r at none (rw c.width-cells.ensures.value at over)
