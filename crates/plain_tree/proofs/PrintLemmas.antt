-- What is printed of a tree, from what is stored of it.
use Rattle.std.proofs.Common.{◌≡◌, ℕ, List, ◌++◌, ◌∙◌, ap, ℤ}
use Rattle.std.specs.Prelude.{codes}
use Rattle.std.specs.Fmt.{signed_decimal}
use Rattle.std.specs.BTreeMap.{BTreeMap, IsOrdered}
use Rattle.std.proofs.lemmas.List.Folds.{flat_map-map}
use Rattle.tree_key.specs.Keys.{Key, root, key_cmp}
use Rattle.tree_model.specs.StoredTrees.{interior_differences}
use Rattle.tree_model.specs.Nodes.{Form}
use Rattle.tree_model.specs.Nodes.Form.{Reconstructed, Compressed}
use Rattle.tree_model.specs.OperationTexts.{printed_lines, compressed_lines, interior_keys}
use Rattle.tree_model.specs.Rows.{leaf_sums, with_sum}
use Rattle.tree_model.specs.Texts.{tree_lines, leaves}
use Rattle.tree_model.specs.Trees.{Tree, box_sum, difference}
use Rattle.tree_model.proofs.StoredTreeLemmas.{leaves_in_order, differences_in_order}
use Rattle.tree_operations.specs.StoredTrees.{KeepsForm}
use Rattle.plain_tree.specs.Lines.{number_line, sums_text, differences_text}
use Rattle.tree_operations.specs.declared.stored.Compressed.{Compressed as CompressedTree}
use Rattle.tree_operations.specs.declared.stored.StoredTree.TheVariants.{Reconstructed as KeptLeaves, Compressed as KeptDifferences}

-- the lines of a tree are those of its leaves with their sums, or of its keys that have children with their differences
tree_lines_sums : (name : List ℕ) (t : Tree) → sums_text name (leaf_sums t) ≡ tree_lines name t
tree_lines_sums name t = ap (λ rest. codes "tree " ++ name ++ codes " reconstructed\n" ++ rest) (flat_map-map number_line (with_sum t) (leaves t))

compressed_lines_differences : (name : List ℕ) (t : Tree) → differences_text name (box_sum t root) (interior_differences t) ≡ compressed_lines name t
compressed_lines_differences name t =
    ap (λ rest. codes "tree " ++ name ++ codes " compressed " ++ signed_decimal (box_sum t root) ++ codes "\n" ++ rest) (flat_map-map number_line (λ k. (k, difference t k)) (interior_keys t))

pub printed_leaves : (depth : ℕ) (form : Form) (t : Tree) (leaves : BTreeMap Key ℤ) (name : List ℕ) → KeepsForm depth form t (KeptLeaves leaves) → IsOrdered key_cmp leaves → sums_text name leaves.entries ≡ printed_lines form name t
printed_leaves depth Reconstructed t leaves name keeps order = ap (sums_text name) (leaves_in_order t leaves keeps.keeps.sound.tree order keeps.keeps.at) ∙ tree_lines_sums name t
printed_leaves depth Compressed t leaves name keeps order = absurd keeps

pub printed_differences : (depth : ℕ) (form : Form) (t : Tree) (tree : CompressedTree) (name : List ℕ) → KeepsForm depth form t (KeptDifferences tree) → IsOrdered key_cmp tree.differences → differences_text name tree.sum tree.differences.entries ≡ printed_lines form name t
printed_differences depth Reconstructed t tree name keeps order = absurd keeps
printed_differences depth Compressed t tree name keeps order =
    ap (λ sum. differences_text name sum tree.differences.entries) keeps.all
    ∙ ap (differences_text name (box_sum t root)) (differences_in_order t tree.differences keeps.keeps.sound.tree order keeps.keeps.at)
    ∙ compressed_lines_differences name t
