use Rattle.std.proofs.Common.{rules}
use Rattle.tree_model.specs.Nodes.Form.{Compressed}
use Rattle.tree_model.specs.Versions.{read_two}
use Rattle.plain_tree.proofs.FoundTreeLemmas.{both_differences_read}
use Rattle.tree_operations.proofs.InnerProductLemmas.{passed_wide}
use Rattle.plain_tree.proofs.writing.print_inner.Goals as goal

pub inner-requires : goal.inner-requires
inner-requires c =
    let r = both_differences_read c.args.depth c.in-Some.one.now c.in-Some.other.now (read_two c.requires.0 Compressed c.bytes-left.result.now c.bytes-right.result.now) (c.in-Some.ensures c.args.depth c.requires.0 c.requires.1) in
    (r.first, r.second, r.keeps_first, r.keeps_second)

pub returns-in_ok-add_inner-in-Some-clause-text : goal.returns-in_ok-add_inner-in-Some-clause-text
returns-in_ok-add_inner-in-Some-clause-text c = λ versions has.
    let r = both_differences_read c.args.depth c.in-Some.one.now c.in-Some.other.now (read_two versions Compressed c.bytes-left.result.now c.bytes-right.result.now) (c.in-Some.ensures c.args.depth versions has) in
    let product = c.inner.ensures r.first r.second r.keeps_first r.keeps_second in
    let wrote = rw (passed_wide c.inner.result (search rules)) at c.in_ok-add_inner-in-Some.ensures in
    rw (← c.bytes-left.ensures, ← c.bytes-right.ensures, r.is, ← product) wrote
