use Rattle.std.proofs.Common.{◌≡◌, sym, ◌∙◌, ap, subst}
use Rattle.std.specs.Prelude.{Some}
use Rattle.std.specs.Option.{option_map}
use Rattle.tree_model.specs.Versions.{written}
use Rattle.tree_model.specs.Signatures.{written_name}
use Rattle.tree_operations.specs.StoredTrees.{Matches}
use Rattle.tree_operations.proofs.ResultLemmas.{OnOk_map}
use Rattle.plain_tree.proofs.VersionLemmas.{after_put}
use Rattle.plain_tree.proofs.jobs.put_written.Goals as goal

pub returns-in-Some-name : goal.returns-in-Some-name
returns-in-Some-name c =
    OnOk_map c.put.result _ _
    (λ put. λ depth versions command is has matches.
    let named : written_name command ≡ Some c.in-Some-name.name.now = sym is ∙ ap (option_map (λ name. name.now)) c.in-Some-name.is in
    let kept = subst (λ tree. Matches depth tree (written depth versions command)) c.in-Some.is matches in
    after_put depth versions command c.args.trees.now c.put.new.trees c.in-Some-name.name.now c.in-Some.kept has kept named put)
    c.put.ensures
