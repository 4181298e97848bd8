use Rattle.std.proofs.Common.{◌≡◌, ℕ, true, false, sym, ◌∙◌, rules, ℤ}
use Rattle.std.specs.BTreeMap.{BTreeMap}
use Rattle.tree_key.specs.Keys.{Key, child}
use Rattle.tree_model.specs.Operations.{coarsened}
use Rattle.tree_model.specs.StoredTrees.{leaf_sum_at}
use Rattle.tree_model.specs.Trees.{Tree}
use Rattle.tree_operations.specs.Filling.{below, Fills}
use Rattle.tree_operations.specs.Numbers.{KeepsLeaves}
use Rattle.tree_operations.proofs.BelowFillingLemmas.{fills_below, fills_deeper}
use Rattle.tree_operations.proofs.CoarseningLemmas.{HasHalves, leaf_constant, leaf_constant_sum, constant_joined, constant_small, constant_where_sum, split_where_none, nothing_below, no_half_leaf, sum_of_half}
use Rattle.tree_operations.proofs.StoredNumberLemmas.{leaf_with, children_where_no_leaf, passed}
use Rattle.tree_operations.proofs.coarsening.+coarsen_below.Goals as goal
use Rattle.tree_operations.proofs.coarsening.+coarsen_below.Goals.{In_ok-right-in-None}

halves : (t : ℕ) (c : In_ok-right-in-None t) (tree : Tree) → KeepsLeaves tree c.args.leaves.now → tree.shape c.args.key ≡ true → HasHalves tree c.args.key c.in_ok-left-in-None.left c.in_ok-right-in-None.right
halves t c tree keeps inside =
    let children = children_where_no_leaf tree c.args.leaves.now c.args.key keeps inside (sym c.in-None.ensures) in
    record {
      sound = keeps.sound;
      inside = inside;
      above = children.above;
      left_sum = rw c.child-first.ensures at (c.in_ok-left-in-None.ensures.sum tree keeps (rw c.child-first.ensures children.left));
      right_sum = rw c.child-second.ensures at (c.in_ok-right-in-None.ensures.sum tree keeps (rw c.child-second.ensures children.right));
    }

pub joined-requires-clause-left : goal.joined-requires-clause-left
joined-requires-clause-left t c =
    let tree = c.requires.0 in
    let sums = halves t c tree c.requires.1 c.requires.2 in
    rw sums.left_sum (constant_small tree (child c.args.key false) sums.sound)

pub joined-requires-clause-right : goal.joined-requires-clause-right
joined-requires-clause-right t c =
    let tree = c.requires.0 in
    let sums = halves t c tree c.requires.1 c.requires.2 in
    rw sums.right_sum (constant_small tree (child c.args.key true) sums.sound)

pub returns-in-Some-clause-sum : goal.returns-in-Some-clause-sum
returns-in-Some-clause-sum t c = λ tree keeps inside.
    let leaf = leaf_with tree c.args.leaves.now c.args.key c.in-Some.sum keeps (sym c.in-Some.ensures) in
    rw (passed c.in-Some.sum (search rules)) (leaf_constant_sum tree c.args.key c.in-Some.sum keeps.sound leaf)

pub returns-in-Some-clause-leaves : goal.returns-in-Some-clause-leaves
returns-in-Some-clause-leaves t c = λ tree keeps inside.
    let leaf = leaf_with tree c.args.leaves.now c.args.key c.in-Some.sum keeps (sym c.in-Some.ensures) in
    nothing_below tree c.args.key c.args.sums.now keeps.sound.tree (leaf_constant tree c.args.key c.in-Some.sum keeps.sound leaf)

-- the numbers below both halves
record AreFilled (tree : Tree) (key : Key) (old half both : BTreeMap Key ℤ) : Type 0 where
  first : Fills (child key false) (below (child key false) (leaf_sum_at (coarsened tree))) old half
  second : Fills (child key true) (below (child key true) (leaf_sum_at (coarsened tree))) half both

filled : (t : ℕ) (c : In_ok-right-in-None t) (tree : Tree) → KeepsLeaves tree c.args.leaves.now → tree.shape c.args.key ≡ true → AreFilled tree c.args.key c.args.sums.now c.coarsen_below.new.sums c.coarsen_below-in-None.new.sums
filled t c tree keeps inside =
    let children = children_where_no_leaf tree c.args.leaves.now c.args.key keeps inside (sym c.in-None.ensures) in
    record {
      first = rw c.child-first.ensures at (c.in_ok-left-in-None.ensures.leaves tree keeps (rw c.child-first.ensures children.left));
      second = rw c.child-second.ensures at (c.in_ok-right-in-None.ensures.leaves tree keeps (rw c.child-second.ensures children.right));
    }

pub returns-in-Some-joined-clause-sum : goal.returns-in-Some-joined-clause-sum
returns-in-Some-joined-clause-sum t c = λ tree keeps inside.
    let sums = halves t (goal.at.returns-in-Some-joined-clause-sum t c).In_ok-right-in-None tree keeps inside in
    rw (passed c.in-Some-joined.sum (search rules))
    (c.in-Some-joined.ensures ∙ constant_joined tree c.args.key c.in_ok-left-in-None.left c.in_ok-right-in-None.right sums)

pub returns-in-Some-joined-clause-leaves : goal.returns-in-Some-joined-clause-leaves
returns-in-Some-joined-clause-leaves t c = λ tree keeps inside.
    let here = (goal.at.returns-in-Some-joined-clause-leaves t c).In_ok-right-in-None in
    let sums = halves t here tree keeps inside in
    let fills = filled t here tree keeps inside in
    let constant = constant_where_sum tree c.args.key c.in-Some-joined.sum (sym (c.in-Some-joined.ensures ∙ constant_joined tree c.args.key c.in_ok-left-in-None.left c.in_ok-right-in-None.right sums)) in
    fills_deeper c.args.key (leaf_sum_at (coarsened tree)) c.args.sums.now c.coarsen_below.new.sums c.coarsen_below-in-None.new.sums fills.first fills.second
    (no_half_leaf tree c.args.key false keeps.sound.tree constant)
    (no_half_leaf tree c.args.key true keeps.sound.tree constant)

pub returns-in_ok-set_if_some-in-None-joined-2-clause-sum : goal.returns-in_ok-set_if_some-in-None-joined-2-clause-sum
returns-in_ok-set_if_some-in-None-joined-2-clause-sum t c = λ tree keeps inside.
    let sums = halves t (goal.at.returns-in_ok-set_if_some-in-None-joined-2-clause-sum t c).In_ok-right-in-None tree keeps inside in
    c.in-None-joined.ensures ∙ constant_joined tree c.args.key c.in_ok-left-in-None.left c.in_ok-right-in-None.right sums

pub returns-in_ok-set_if_some-in-None-joined-2-clause-leaves : goal.returns-in_ok-set_if_some-in-None-joined-2-clause-leaves
returns-in_ok-set_if_some-in-None-joined-2-clause-leaves t c = λ tree keeps inside.
    let here = (goal.at.returns-in_ok-set_if_some-in-None-joined-2-clause-leaves t c).In_ok-right-in-None in
    let sums = halves t here tree keeps inside in
    let fills = filled t here tree keeps inside in
    let left = c.in_ok-left-in-None.left in
    let right = c.in_ok-right-in-None.right in
    let differ = split_where_none tree c.args.key (sym (c.in-None-joined.ensures ∙ constant_joined tree c.args.key left right sums)) in
    fills_below c.args.key (leaf_sum_at (coarsened tree)) left right c.args.sums.now c.coarsen_below.new.sums c.coarsen_below-in-None.new.sums c.set_if_some.new.numbers c.set_if_some-in-None-joined.new.numbers fills.first fills.second
    (rw c.child-first.ensures at c.in_ok-set_if_some-in-None-joined.ensures)
    (rw c.child-second.ensures at c.in_ok-set_if_some-in-None-joined-2.ensures)
    (sums.left_sum ∙ sum_of_half tree c.args.key false left right sums differ)
    (sums.right_sum ∙ sum_of_half tree c.args.key true left right sums differ)
