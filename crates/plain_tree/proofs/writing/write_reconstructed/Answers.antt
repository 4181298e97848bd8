use Rattle.job_words.specs.NameBytes.{bytes_of}
use Rattle.tree_model.specs.Nodes.Form.{Compressed}
use Rattle.tree_model.specs.Versions.{read}
use Rattle.plain_tree.proofs.FoundTreeLemmas.{differences_read}
use Rattle.plain_tree.proofs.writing.write_reconstructed.Goals as goal

pub reconstruct-requires : goal.reconstruct-requires
reconstruct-requires c =
    let r = differences_read c.args.depth c.in-Some.tree.now (read c.requires.0 Compressed c.bytes.result.now) (c.in-Some.ensures c.args.depth c.requires.0 c.requires.1) in
    (r.tree, c.args.depth, r.keeps)

pub returns-in_ok-leaves-in-Some-clause-tree : goal.returns-in_ok-leaves-in-Some-clause-tree
returns-in_ok-leaves-in-Some-clause-tree c = λ versions has.
    let found = rw c.bytes.ensures at (c.in-Some.ensures c.args.depth versions has) in
    let r = differences_read c.args.depth c.in-Some.tree.now (read versions Compressed (bytes_of c.args.name.now)) found in
    rw (c.named.ensures.tree, r.is) (c.in_ok-leaves-in-Some.ensures r.tree c.args.depth r.keeps)
