use Rattle.std.proofs.Common.{◌≡◌, ℕ, List, ◌++◌, ◌∙◌, ap, append_assoc, rules}
use Rattle.std.specs.Prelude.{codes}
use Rattle.std.specs.Fmt.{signed_decimal}
use Rattle.tree_operations.proofs.StoredNumberLemmas.{passed}
use Rattle.tree_operations.proofs.ResultLemmas.{OnOk_map}
use Rattle.plain_tree.proofs.lines.add_heading.Goals as goal

pieces : (text a b c d : List ℕ) → (((text ++ a) ++ b) ++ c) ++ d ≡ text ++ (((a ++ b) ++ c) ++ d)
pieces text a b c d = simp append_assoc

pub returns : goal.returns
returns c =
    let named = codes "tree " ++ c.args.name.now in
    let number = rw (passed c.args.sum (search rules)) at c.in_ok-add_signed.ensures in
    OnOk_map c.add-2.result _ _ (λ last. last
    ∙ ap (λ t. t ++ codes "\n") (number ∙ ap (λ t. t ++ signed_decimal c.args.sum) (c.in_ok-add.ensures.ok ∙ ap (λ t. t ++ codes " compressed ") c.in_ok-add_name.ensures))
    ∙ pieces c.args.text.now named (codes " compressed ") (signed_decimal c.args.sum) (codes "\n")) c.add-2.ensures.ok
