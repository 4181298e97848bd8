use Rattle.job_words.specs.NameBytes.{bytes_of}
use Rattle.tree_model.specs.Nodes.Form.{Reconstructed}
use Rattle.tree_model.specs.Versions.{read_two}
use Rattle.tree_operations.proofs.ResultLemmas.{handed_on_error}
use Rattle.tree_operations.specs.declared.command_error.CommandError.TheVariants.{Overflow}
use Rattle.plain_tree.proofs.FoundTreeLemmas.{both_leaves_read}
use Rattle.plain_tree.proofs.writing.write_product.Goals as goal

pub multiply-requires : goal.multiply-requires
multiply-requires c =
    let r = both_leaves_read c.args.depth c.in-Some.left.now c.in-Some.right.now (read_two c.requires.0 Reconstructed c.bytes.result.now c.bytes-2.result.now) (c.in-Some.ensures c.args.depth c.requires.0 c.requires.1) in
    (r.first, r.second, r.keeps_first, r.keeps_second)

pub returns-in_err-product-in-Some-clause-over : goal.returns-in_err-product-in-Some-clause-over
returns-in_err-product-in-Some-clause-over c = λ is. λ versions has.
    let found = rw (c.bytes.ensures, c.bytes-2.ensures) at (c.in-Some.ensures c.args.depth versions has) in
    let r = both_leaves_read c.args.depth c.in-Some.left.now c.in-Some.right.now (read_two versions Reconstructed (bytes_of c.args.left.now) (bytes_of c.args.right.now)) found in
    let same = handed_on_error c.from_residual.result c.multiply.result Overflow _ c.from_residual.ensures.1 c.in_err-product-in-Some.was is in
    rw r.is (c.multiply.ensures.over same r.first r.second r.keeps_first r.keeps_second)

pub returns-in_ok-product-in-Some-clause-tree : goal.returns-in_ok-product-in-Some-clause-tree
returns-in_ok-product-in-Some-clause-tree c = λ versions has.
    let found = rw (c.bytes.ensures, c.bytes-2.ensures) at (c.in-Some.ensures c.args.depth versions has) in
    let r = both_leaves_read c.args.depth c.in-Some.left.now c.in-Some.right.now (read_two versions Reconstructed (bytes_of c.args.left.now) (bytes_of c.args.right.now)) found in
    rw (c.named.ensures.tree, r.is) (c.in_ok-product-in-Some.ensures.product r.first r.second r.keeps_first r.keeps_second)
