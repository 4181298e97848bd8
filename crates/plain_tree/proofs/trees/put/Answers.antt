use Rattle.std.proofs.Common.{cond, Some, ◌∙◌, ap}
use Rattle.std.proofs.lemmas.Map.Text.{btree_map_updates_str}
use Rattle.plain_tree.specs.Trees.{kept_at}
use Rattle.plain_tree.proofs.NameLemmas.{bytes_eq_swap}
use Rattle.plain_tree.proofs.trees.put.Goals as goal

pub returns : goal.returns
returns c = λ other.
    btree_map_updates_str c.args.name.now c.args.trees.now c.insert.new.self _ c.in_ok-insert.ensures.updates other
    ∙ ap (λ b. cond b (Some c.args.kept) (kept_at c.args.trees.now other)) (bytes_eq_swap c.args.name.now other)
