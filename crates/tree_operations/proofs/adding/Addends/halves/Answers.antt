use Rattle.std.proofs.Common.{rules}
use Rattle.tree_operations.proofs.AddingLemmas.{cut_there}
use Rattle.tree_operations.proofs.StoredDifferenceLemmas.{splits, half_on_the_left, half_on_the_right}
use Rattle.tree_operations.proofs.adding.Addends.halves.Goals as goal

pub split-left-requires-clause-sum : goal.split-left-requires-clause-sum
split-left-requires-clause-sum c =
    let cut = cut_there c.requires.0 c.requires.1 c.args.self.now.left.now c.args.self.now.right.now c.args.self.now.depth c.args.key c.args.differences.left c.args.differences.right c.requires.2.kept c.requires.3 in
    (splits c.requires.0 c.args.key c.args.sums.left c.args.differences.left c.requires.2.kept.first.sound cut.first_above (search rules) (search rules) c.requires.2.first_sum cut.first).sum

pub split-left-requires-clause-difference : goal.split-left-requires-clause-difference
split-left-requires-clause-difference c =
    let cut = cut_there c.requires.0 c.requires.1 c.args.self.now.left.now c.args.self.now.right.now c.args.self.now.depth c.args.key c.args.differences.left c.args.differences.right c.requires.2.kept c.requires.3 in
    (splits c.requires.0 c.args.key c.args.sums.left c.args.differences.left c.requires.2.kept.first.sound cut.first_above (search rules) (search rules) c.requires.2.first_sum cut.first).apart

pub split-left-requires-clause-even : goal.split-left-requires-clause-even
split-left-requires-clause-even c =
    let cut = cut_there c.requires.0 c.requires.1 c.args.self.now.left.now c.args.self.now.right.now c.args.self.now.depth c.args.key c.args.differences.left c.args.differences.right c.requires.2.kept c.requires.3 in
    (splits c.requires.0 c.args.key c.args.sums.left c.args.differences.left c.requires.2.kept.first.sound cut.first_above (search rules) (search rules) c.requires.2.first_sum cut.first).even

pub split-other_left-requires-clause-sum : goal.split-other_left-requires-clause-sum
split-other_left-requires-clause-sum c =
    let cut = cut_there c.requires.0 c.requires.1 c.args.self.now.left.now c.args.self.now.right.now c.args.self.now.depth c.args.key c.args.differences.left c.args.differences.right c.requires.2.kept c.requires.3 in
    (splits c.requires.1 c.args.key c.args.sums.right c.args.differences.right c.requires.2.kept.second.sound cut.second_above (search rules) (search rules) c.requires.2.second_sum cut.second).sum

pub split-other_left-requires-clause-difference : goal.split-other_left-requires-clause-difference
split-other_left-requires-clause-difference c =
    let cut = cut_there c.requires.0 c.requires.1 c.args.self.now.left.now c.args.self.now.right.now c.args.self.now.depth c.args.key c.args.differences.left c.args.differences.right c.requires.2.kept c.requires.3 in
    (splits c.requires.1 c.args.key c.args.sums.right c.args.differences.right c.requires.2.kept.second.sound cut.second_above (search rules) (search rules) c.requires.2.second_sum cut.second).apart

pub split-other_left-requires-clause-even : goal.split-other_left-requires-clause-even
split-other_left-requires-clause-even c =
    let cut = cut_there c.requires.0 c.requires.1 c.args.self.now.left.now c.args.self.now.right.now c.args.self.now.depth c.args.key c.args.differences.left c.args.differences.right c.requires.2.kept c.requires.3 in
    (splits c.requires.1 c.args.key c.args.sums.right c.args.differences.right c.requires.2.kept.second.sound cut.second_above (search rules) (search rules) c.requires.2.second_sum cut.second).even

pub returns-clause-left : goal.returns-clause-left
returns-clause-left c = λ f g at two.
    let cut = cut_there f g c.args.self.now.left.now c.args.self.now.right.now c.args.self.now.depth c.args.key c.args.differences.left c.args.differences.right at.kept two in
    record {
      kept = at.kept;
      key = cut.left;
      first_sum = half_on_the_left f c.args.key c.split-left.result.0 c.args.sums.left c.args.differences.left cut.first_above (search rules) (search rules) (search rules) at.first_sum cut.first c.split-left.ensures.left;
      second_sum = half_on_the_left g c.args.key c.split-other_left.result.0 c.args.sums.right c.args.differences.right cut.second_above (search rules) (search rules) (search rules) at.second_sum cut.second c.split-other_left.ensures.left;
    }

pub returns-clause-right : goal.returns-clause-right
returns-clause-right c = λ f g at two.
    let cut = cut_there f g c.args.self.now.left.now c.args.self.now.right.now c.args.self.now.depth c.args.key c.args.differences.left c.args.differences.right at.kept two in
    record {
      kept = at.kept;
      key = cut.right;
      first_sum = half_on_the_right f c.args.key c.split-left.result.1 c.args.sums.left c.args.differences.left cut.first_above (search rules) (search rules) (search rules) at.first_sum cut.first c.split-left.ensures.right;
      second_sum = half_on_the_right g c.args.key c.split-other_left.result.1 c.args.sums.right c.args.differences.right cut.second_above (search rules) (search rules) (search rules) at.second_sum cut.second c.split-other_left.ensures.right;
    }
