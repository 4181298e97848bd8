use Rattle.haar_node.proofs.WeightedSumLemmas.{exact}
use Rattle.tree_operations.proofs.adding.Addends.weighted.Goals as goal

pub overflow_add-result : goal.overflow_add-result
overflow_add-result c =
    (exact c.args.self.now.left_factor c.args.numbers.left c.args.self.now.right_factor c.args.numbers.right c.args.self.now.left_is_small c.requires.left c.args.self.now.right_is_small c.requires.right).fits

pub returns : goal.returns
returns c =
    (exact c.args.self.now.left_factor c.args.numbers.left c.args.self.now.right_factor c.args.numbers.right c.args.self.now.left_is_small c.requires.left c.args.self.now.right_is_small c.requires.right).sum
