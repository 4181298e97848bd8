use Rattle.std.proofs.Common.{sym, ◌∙◌, ap, Some, rules, arith, to_z, of_z, w64}
use Rattle.tree_model.specs.StoredTrees.{difference_at}
use Rattle.tree_model.specs.Operations.{weighted_sum}
use Rattle.tree_operations.proofs.AddingLemmas.{cut_there, difference_is_small, difference_of_sum, no_differences_of_sum}
use Rattle.tree_operations.proofs.LeafValueLemmas.{halves_have_values}
use Rattle.tree_operations.proofs.FillingLemmas.{fills_nothing, fills_all}
use Rattle.tree_operations.proofs.StoredNumberLemmas.{passed}
use Rattle.tree_operations.proofs.ResultLemmas.{OnOk_map, OnOk_from}
use Rattle.tree_operations.proofs.adding.Addends.+add_below.Goals as goal

pub halves-requires : goal.halves-requires
halves-requires t c = (c.requires.0, c.requires.1, c.requires.2, sym (c.in-Some.ensures c.requires.0 c.requires.1 c.requires.2.kept))

pub child-requires : goal.child-requires
child-requires t c =
    let two = sym (c.in-Some.ensures c.requires.0 c.requires.1 c.requires.2.kept) in
    let cut = cut_there c.requires.0 c.requires.1 c.args.self.now.left.now c.args.self.now.right.now c.args.self.now.depth c.args.key c.in-Some.here.left c.in-Some.here.right c.requires.2.kept two in
    omega (arith, cut.first_above, c.requires.2.kept.first.sound.depth)

pub add_below-requires : goal.add_below-requires
add_below-requires t c =
    let f = c.requires.0 in
    let g = c.requires.1 in
    let two = sym (c.in-Some.ensures f g c.requires.2.kept) in
    (search rules, (f, g, rw c.child.ensures (c.halves.ensures.left f g c.requires.2 two)))

pub add_below-requires-in-Some : goal.add_below-requires-in-Some
add_below-requires-in-Some t c =
    let f = c.requires.0 in
    let g = c.requires.1 in
    let two = sym (c.in-Some.ensures f g c.requires.2.kept) in
    (search rules, (f, g, rw c.child-in-Some.ensures (c.halves.ensures.right f g c.requires.2 two)))

pub weighted-requires-clause-left : goal.weighted-requires-clause-left
weighted-requires-clause-left t c =
    let two = sym (c.in-Some.ensures c.requires.0 c.requires.1 c.requires.2.kept) in
    let cut = cut_there c.requires.0 c.requires.1 c.args.self.now.left.now c.args.self.now.right.now c.args.self.now.depth c.args.key c.in-Some.here.left c.in-Some.here.right c.requires.2.kept two in
    difference_is_small c.requires.0 c.args.key c.in-Some.here.left c.requires.2.kept.first.sound cut.first

pub weighted-requires-clause-right : goal.weighted-requires-clause-right
weighted-requires-clause-right t c =
    let two = sym (c.in-Some.ensures c.requires.0 c.requires.1 c.requires.2.kept) in
    let cut = cut_there c.requires.0 c.requires.1 c.args.self.now.left.now c.args.self.now.right.now c.args.self.now.depth c.args.key c.in-Some.here.left c.in-Some.here.right c.requires.2.kept two in
    difference_is_small c.requires.1 c.args.key c.in-Some.here.right c.requires.2.kept.second.sound cut.second

pub returns-in-None-clause-differences : goal.returns-in-None-clause-differences
returns-in-None-clause-differences t c = OnOk_from c.check_leaf.result _ (λ f g at.
    fills_nothing c.args.key (difference_at (weighted_sum c.args.self.now.left_factor f c.args.self.now.right_factor g)) c.args.differences.now
    (λ k under. no_differences_of_sum c.args.self.now.left_factor f c.args.self.now.right_factor g c.args.self.now.left.now c.args.self.now.right.now c.args.self.now.depth c.args.key k at.kept (sym (c.in-None.ensures f g at.kept)) under))

pub returns-in-None-clause-within : goal.returns-in-None-clause-within
returns-in-None-clause-within t c = OnOk_map c.check_leaf.result _ _ (λ within. λ f g at. within f g at (sym (c.in-None.ensures f g at.kept))) c.check_leaf.ensures.within

pub returns-in-None-clause-over : goal.returns-in-None-clause-over
returns-in-None-clause-over t c = λ is f g at. c.check_leaf.ensures.over is f g at (sym (c.in-None.ensures f g at.kept))

pub returns-in_ok-set_number-in-Some-clause-differences : goal.returns-in_ok-set_number-in-Some-clause-differences
returns-in_ok-set_number-in-Some-clause-differences t c = λ f g at.
    let a = c.args.self.now.left_factor in
    let b = c.args.self.now.right_factor in
    let two = sym (c.in-Some.ensures f g at.kept) in
    let first = c.in_ok-add_below-in-Some.ensures.differences f g (rw c.child.ensures (c.halves.ensures.left f g at two)) in
    let second = c.in_ok-add_below-in-Some-2.ensures.differences f g (rw c.child-in-Some.ensures (c.halves.ensures.right f g at two)) in
    let number = difference_of_sum a f b g c.args.self.now.left.now c.args.self.now.right.now c.args.self.now.depth c.args.key c.in-Some.here.left c.in-Some.here.right at.kept two in
    fills_all c.args.key (difference_at (weighted_sum a f b g)) (to_z w64 (of_z w64 c.weighted.result)) c.args.differences.now c.add_below.new.differences c.add_below-in-Some.new.differences c.set_number.new.numbers
    (number ∙ ap Some (sym (passed c.weighted.result (search rules) ∙ c.weighted.ensures))) (rw c.child.ensures at first) (rw c.child-in-Some.ensures at second) c.in_ok-set_number-in-Some.ensures

pub returns-in_ok-set_number-in-Some-clause-within : goal.returns-in_ok-set_number-in-Some-clause-within
returns-in_ok-set_number-in-Some-clause-within t c = λ f g at.
    let two = sym (c.in-Some.ensures f g at.kept) in
    let cut = cut_there f g c.args.self.now.left.now c.args.self.now.right.now c.args.self.now.depth c.args.key c.in-Some.here.left c.in-Some.here.right at.kept two in
    let first = c.in_ok-add_below-in-Some.ensures.within f g (rw c.child.ensures (c.halves.ensures.left f g at two)) in
    let second = c.in_ok-add_below-in-Some-2.ensures.within f g (rw c.child-in-Some.ensures (c.halves.ensures.right f g at two)) in
    halves_have_values (weighted_sum c.args.self.now.left_factor f c.args.self.now.right_factor g) c.args.key cut.left (rw c.child.ensures at first) (rw c.child-in-Some.ensures at second)
