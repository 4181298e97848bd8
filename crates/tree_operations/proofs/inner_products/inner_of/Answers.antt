use Rattle.std.proofs.Common.{◌∙◌, rules}
use Rattle.tree_operations.proofs.StoredNumberLemmas.{passed}
use Rattle.tree_operations.proofs.InnerProductLemmas.{passed_wide, depths_agree, finishes}
use Rattle.tree_operations.proofs.inner_products.inner_of.Goals as goal

pub finish_inner-requires-clause-sum : goal.finish_inner-requires-clause-sum
finish_inner-requires-clause-sum c =
    let f = c.requires.0 in
    let g = c.requires.1 in
    let part = c.inner_below-part.ensures f g c.requires.2.keeps c.requires.3.keeps (depths_agree f g c.args.depth c.requires.2.deep c.requires.3.deep) in
    (finishes f g c.args.depth c.args.left_sum c.args.right_sum c.inner_below-part.result c.args.left.now c.args.right.now c.requires.2 c.requires.3 c.ranges.left_sum c.ranges.right_sum (search rules) (rw c.root.ensures at part)).small_left

pub finish_inner-requires-clause-other : goal.finish_inner-requires-clause-other
finish_inner-requires-clause-other c =
    let f = c.requires.0 in
    let g = c.requires.1 in
    let part = c.inner_below-part.ensures f g c.requires.2.keeps c.requires.3.keeps (depths_agree f g c.args.depth c.requires.2.deep c.requires.3.deep) in
    (finishes f g c.args.depth c.args.left_sum c.args.right_sum c.inner_below-part.result c.args.left.now c.args.right.now c.requires.2 c.requires.3 c.ranges.left_sum c.ranges.right_sum (search rules) (rw c.root.ensures at part)).small_right

pub finish_inner-requires-clause-part : goal.finish_inner-requires-clause-part
finish_inner-requires-clause-part c =
    let f = c.requires.0 in
    let g = c.requires.1 in
    let part = c.inner_below-part.ensures f g c.requires.2.keeps c.requires.3.keeps (depths_agree f g c.args.depth c.requires.2.deep c.requires.3.deep) in
    (finishes f g c.args.depth c.args.left_sum c.args.right_sum c.inner_below-part.result c.args.left.now c.args.right.now c.requires.2 c.requires.3 c.ranges.left_sum c.ranges.right_sum (search rules) (rw c.root.ensures at part)).small_part

pub finish_inner-requires-clause-exact : goal.finish_inner-requires-clause-exact
finish_inner-requires-clause-exact c =
    let f = c.requires.0 in
    let g = c.requires.1 in
    let part = c.inner_below-part.ensures f g c.requires.2.keeps c.requires.3.keeps (depths_agree f g c.args.depth c.requires.2.deep c.requires.3.deep) in
    (finishes f g c.args.depth c.args.left_sum c.args.right_sum c.inner_below-part.result c.args.left.now c.args.right.now c.requires.2 c.requires.3 c.ranges.left_sum c.ranges.right_sum (search rules) (rw c.root.ensures at part)).exact

pub returns : goal.returns
returns c = λ f g is_f is_g.
    let part = c.inner_below-part.ensures f g is_f.keeps is_g.keeps (depths_agree f g c.args.depth is_f.deep is_g.deep) in
    passed_wide c.finish_inner.result (search rules)
    ∙ c.finish_inner.ensures.inner f g is_f.keeps.sound.tree is_g.keeps.sound.tree is_f.deep is_g.deep
    (passed c.args.left_sum c.ranges.left_sum ∙ is_f.all)
    (passed c.args.right_sum c.ranges.right_sum ∙ is_g.all)
    (passed_wide c.inner_below-part.result (search rules) ∙ rw c.root.ensures at part)
