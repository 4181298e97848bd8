-- What the names stand for after a command.
use Rattle.std.proofs.Common.{◌≡◌, ℕ, List, Bool, true, false, cond, Option, Some, None, refl, ap}
use Rattle.std.specs.Borrow.{Bor}
use Rattle.std.specs.BTreeMap.{BTreeMap}
use Rattle.std.specs.Option.{option_map_or}
use Rattle.std.specs.Str.{bytes_eq}
use Rattle.tree_model.specs.Commands.{Command}
use Rattle.tree_model.specs.Signatures.{writes, written_name}
use Rattle.tree_model.specs.Nodes.{Form}
use Rattle.tree_model.specs.Nodes.Form.{Reconstructed, Compressed}
use Rattle.tree_model.specs.Operations.{overflows}
use Rattle.tree_model.specs.Trees.{Tree}
use Rattle.tree_model.specs.Versions.{Version, Versions, written, newer, after, command_overflows}
use Rattle.tree_model.proofs.StoredTreeLemmas.{values_dont_overflow}
use Rattle.tree_operations.specs.StoredTrees.{KeepsForm, Matches}
use Rattle.plain_tree.specs.Trees.{kept_at, HasVersions}
use Rattle.tree_operations.specs.declared.stored.StoredTree.{StoredTree}
use Rattle.tree_operations.specs.declared.stored.StoredTree.TheVariants.{Reconstructed as KeptLeaves, Compressed as KeptDifferences}

-- which name a command writes
writes_name : (c : Command) (name other : List ℕ) → written_name c ≡ Some name → writes other c ≡ bytes_eq other name
writes_name c name other is = ap (λ o. option_map_or (bytes_eq other) o false) is

-- no tree is written
stays : (b : Bool) (depth : ℕ) (version before : Option Version) (kept : Option StoredTree) → Matches depth None version → Matches depth kept before → Matches depth kept (cond b (newer version before) before)
stays true depth None before kept none has = has
stays true depth (Some version) before kept none has = absurd none
stays false depth version before kept none has = has

-- the tree that is written is put in place of the name's
replaced : (b : Bool) (depth : ℕ) (version before : Option Version) (kept : StoredTree) (old : Option StoredTree) → Matches depth (Some kept) version → Matches depth old before → Matches depth (cond b (Some kept) old) (cond b (newer version before) before)
replaced true depth None before kept old has was = absurd has
replaced true depth (Some version) before kept old has was = has
replaced false depth version before kept old has was = was

pub after_put :
    (depth : ℕ) (versions : Versions) (c : Command) (old new : BTreeMap (Bor (List ℕ)) StoredTree) (name : List ℕ) (kept : StoredTree) →
    HasVersions depth versions old →
    Matches depth (Some kept) (written depth versions c) →
    written_name c ≡ Some name →
    ((other : List ℕ) → kept_at new other ≡ cond (bytes_eq other name) (Some kept) (kept_at old other)) →
    HasVersions depth (after depth versions c) new
after_put depth versions c old new name kept has is named put = record {
  at = λ other. rw (put other, writes_name c name other named) (replaced (bytes_eq other name) depth (written depth versions c) (versions other) kept (kept_at old other) is (has.at other));
}

-- a stored tree doesn't overflow
kept_within : (depth : ℕ) (form : Form) (t : Tree) (kept : StoredTree) → KeepsForm depth form t kept → overflows t ≡ false
kept_within depth Reconstructed t (KeptLeaves leaves) keeps = values_dont_overflow t keeps.keeps.sound.values
kept_within depth Reconstructed t (KeptDifferences tree) keeps = absurd keeps
kept_within depth Compressed t (KeptLeaves leaves) keeps = absurd keeps
kept_within depth Compressed t (KeptDifferences tree) keeps = values_dont_overflow t keeps.keeps.sound.values

matched_within : (depth : ℕ) (kept : Option StoredTree) (version : Option Version) → Matches depth kept version → option_map_or (λ (v : Version). overflows v.tree) version false ≡ false
matched_within depth None None is = refl
matched_within depth None (Some version) is = absurd is
matched_within depth (Some kept) None is = absurd is
matched_within depth (Some kept) (Some version) is = kept_within depth version.form version.tree kept is

pub no_overflow : (depth : ℕ) (versions : Versions) (c : Command) (kept : Option StoredTree) → Matches depth kept (written depth versions c) → command_overflows depth versions c ≡ false
no_overflow depth versions c kept is = matched_within depth kept (written depth versions c) is
