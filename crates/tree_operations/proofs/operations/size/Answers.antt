use Rattle.std.proofs.Common.{arith}
use Rattle.tree_operations.proofs.SizeLemmas.{counted_leaves, counted_differences}
use Rattle.tree_operations.proofs.operations.size.Goals as goal

pub overflow_sub-result : goal.overflow_sub-result
overflow_sub-result c =
    let version = c.requires.1 in
    let count = counted_leaves c.requires.0 version.form version.tree c.in-Reconstructed.leaves (rw c.in-Reconstructed.is at c.requires.2) c.len.ensures.ordered in
    omega (arith, count, c.len.ensures.len)

pub returns-in-Reconstructed : goal.returns-in-Reconstructed
returns-in-Reconstructed c = λ depth version keeps.
    let count = counted_leaves depth version.form version.tree c.in-Reconstructed.leaves (rw c.in-Reconstructed.is at keeps) c.len.ensures.ordered in
    omega (arith, count, c.len.ensures.len)

pub returns-in-Compressed : goal.returns-in-Compressed
returns-in-Compressed c = λ depth version keeps.
    let count = counted_differences depth version.form version.tree c.in-Compressed.tree (rw c.in-Compressed.is at keeps) c.len-in-Compressed.ensures.ordered in
    omega (arith, count, c.len-in-Compressed.ensures.len)
