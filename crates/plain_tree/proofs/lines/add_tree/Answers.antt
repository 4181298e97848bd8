use Rattle.std.proofs.Common.{◌++◌, ◌∙◌, ap}
use Rattle.plain_tree.proofs.PrintLemmas.{printed_leaves, printed_differences}
use Rattle.tree_operations.proofs.ResultLemmas.{OnOk_map, OnOk_both}
use Rattle.plain_tree.proofs.lines.add_tree.Goals as goal

pub returns-in-Reconstructed : goal.returns-in-Reconstructed
returns-in-Reconstructed c =
    OnOk_map c.add_reconstructed.result _ _ (λ facts. λ depth version keeps.
    facts.0 ∙ ap (λ rest. c.args.text.now ++ rest) (printed_leaves depth version.form version.tree c.in-Reconstructed.leaves c.args.name.now (rw c.in-Reconstructed.is at keeps) facts.1))
    (OnOk_both c.add_reconstructed.result _ _ c.add_reconstructed.ensures.text c.add_reconstructed.ensures.order)

pub returns-in-Compressed : goal.returns-in-Compressed
returns-in-Compressed c =
    OnOk_map c.add_compressed.result _ _ (λ facts. λ depth version keeps.
    facts.0 ∙ ap (λ rest. c.args.text.now ++ rest) (printed_differences depth version.form version.tree c.in-Compressed.tree c.args.name.now (rw c.in-Compressed.is at keeps) facts.1))
    (OnOk_both c.add_compressed.result _ _ c.add_compressed.ensures.text c.add_compressed.ensures.order)
