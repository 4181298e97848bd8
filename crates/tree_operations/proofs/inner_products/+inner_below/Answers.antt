use Rattle.std.proofs.Common.{true, sym, ◌∙◌, rules, false}
use Rattle.tree_key.specs.Keys.{child}
use Rattle.tree_operations.proofs.StoredDifferenceLemmas.{halves_with}
use Rattle.tree_operations.proofs.InnerProductLemmas.{difference_small, part_small, combined_part, nothing_in_first, nothing_in_second}
use Rattle.tree_operations.proofs.inner_products.+inner_below.Goals as goal

pub combine_inner-requires-clause-difference : goal.combine_inner-requires-clause-difference
combine_inner-requires-clause-difference t c =
    let tree = c.requires.0 in
    let keeps = c.requires.2 in
    let halves = halves_with tree c.args.left.now c.args.key c.in-Some-Some.difference keeps (sym c.in-Some-Some.ensures) in
    difference_small tree c.args.key c.in-Some-Some.difference keeps.sound (search rules) halves.apart

pub combine_inner-requires-clause-other : goal.combine_inner-requires-clause-other
combine_inner-requires-clause-other t c =
    let tree = c.requires.1 in
    let keeps = c.requires.3 in
    let halves = halves_with tree c.args.right.now c.args.key c.in-Some-Some.other keeps (sym c.in-Some-Some.ensures') in
    difference_small tree c.args.key c.in-Some-Some.other keeps.sound (search rules) halves.apart

pub combine_inner-requires-clause-left : goal.combine_inner-requires-clause-left
combine_inner-requires-clause-left t c =
    let f = c.requires.0 in
    let g = c.requires.1 in
    let part = c.inner_below-below.ensures f g c.requires.2 c.requires.3 c.requires.4 in
    part_small f g (child c.args.key false) c.inner_below-below.result c.requires.2.sound c.requires.3.sound c.requires.4 (search rules) (rw c.child.ensures at part)

pub combine_inner-requires-clause-right : goal.combine_inner-requires-clause-right
combine_inner-requires-clause-right t c =
    let f = c.requires.0 in
    let g = c.requires.1 in
    let part = c.inner_below-behind.ensures f g c.requires.2 c.requires.3 c.requires.4 in
    part_small f g (child c.args.key true) c.inner_below-behind.result c.requires.2.sound c.requires.3.sound c.requires.4 (search rules) (rw c.child-in-Some-Some.ensures at part)

pub returns-in-Some-Some : goal.returns-in-Some-Some
returns-in-Some-Some t c = λ f g keeps_f keeps_g same.
    let in_f = halves_with f c.args.left.now c.args.key c.in-Some-Some.difference keeps_f (sym c.in-Some-Some.ensures) in
    let in_g = halves_with g c.args.right.now c.args.key c.in-Some-Some.other keeps_g (sym c.in-Some-Some.ensures') in
    let left = c.inner_below-below.ensures f g keeps_f keeps_g same in
    let right = c.inner_below-behind.ensures f g keeps_f keeps_g same in
    combined_part f g c.args.key c.combine_inner.result c.in-Some-Some.difference c.in-Some-Some.other c.inner_below-below.result c.inner_below-behind.result in_f in_g
    (search rules) (search rules) (search rules) (search rules) (search rules)
    (rw c.child.ensures at left) (rw c.child-in-Some-Some.ensures at right) c.combine_inner.ensures

pub returns-in_default : goal.returns-in_default
returns-in_default t c = λ f g keeps_f keeps_g same. nothing_in_second f g c.args.right.now c.args.key keeps_g (sym c.in_default.ensures')

pub returns-in_default-2 : goal.returns-in_default-2
returns-in_default-2 t c = λ f g keeps_f keeps_g same. nothing_in_first f g c.args.left.now c.args.key keeps_f (sym c.number_at.ensures ∙ c.in_default.is-0)
