use Rattle.job_words.specs.NameBytes.{bytes_of}
use Rattle.tree_model.specs.Nodes.Form.{Reconstructed}
use Rattle.tree_model.specs.Versions.{read}
use Rattle.plain_tree.proofs.FoundTreeLemmas.{leaves_read}
use Rattle.plain_tree.proofs.writing.write_compressed.Goals as goal

pub returns-in_ok-differences-in-Some-clause-tree : goal.returns-in_ok-differences-in-Some-clause-tree
returns-in_ok-differences-in-Some-clause-tree c = λ versions has.
    let found = rw c.bytes.ensures at (c.in-Some.ensures c.args.depth versions has) in
    let r = leaves_read c.args.depth c.in-Some.leaves.now (read versions Reconstructed (bytes_of c.args.name.now)) found in
    rw (c.named.ensures.tree, r.is) (c.in_ok-differences-in-Some.ensures r.tree c.args.depth r.keeps)
