use Rattle.tree_model.specs.Nodes.Form.{Compressed}
use Rattle.tree_model.specs.Versions.{read_two}
use Rattle.plain_tree.proofs.FoundTreeLemmas.{both_differences_read}
use Rattle.plain_tree.proofs.writing.write_sum.Goals as goal

pub add-requires-clause-trees : goal.add-requires-clause-trees
add-requires-clause-trees c =
    let versions = c.requires.versions in
    let r = both_differences_read c.args.depth c.in-Some.left.now c.in-Some.right.now (read_two versions.0 Compressed c.bytes.result.now c.bytes-2.result.now) (c.in-Some.ensures c.args.depth versions.0 versions.1) in
    (r.first, r.second, r.keeps_first, r.keeps_second)
