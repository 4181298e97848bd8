-- The number of a tree's keys, from what is stored of it.
use Rattle.std.proofs.Common.{◌≡◌, ℕ, ◌+◌, ◌*◌, length, ap, sym, ◌∙◌, ℤ}
use Rattle.std.specs.BTreeMap.{BTreeMap, IsOrdered}
use Rattle.std.proofs.lemmas.List.{length-map}
use Rattle.tree_key.specs.Keys.{Key, key_cmp}
use Rattle.tree_model.specs.Nodes.{Form}
use Rattle.tree_model.specs.Nodes.Form.{Reconstructed, Compressed}
use Rattle.tree_model.specs.OperationTexts.{interior_keys}
use Rattle.tree_model.specs.Rows.{with_sum}
use Rattle.tree_model.specs.Shapes.{key_count}
use Rattle.tree_model.specs.Texts.{leaves}
use Rattle.tree_model.specs.Trees.{Tree, difference}
use Rattle.tree_model.proofs.KeyCountLemmas.{keys_from_interior, keys_from_leaves}
use Rattle.tree_model.proofs.StoredTreeLemmas.{leaves_in_order, differences_in_order}
use Rattle.tree_operations.specs.StoredTrees.{KeepsForm}
use Rattle.tree_operations.specs.declared.stored.Compressed.{Compressed as CompressedTree}
use Rattle.tree_operations.specs.declared.stored.StoredTree.TheVariants.{Reconstructed as KeptLeaves, Compressed as KeptDifferences}

pub counted_leaves : (depth : ℕ) (form : Form) (t : Tree) (sums : BTreeMap Key ℤ) → KeepsForm depth form t (KeptLeaves sums) → IsOrdered key_cmp sums → key_count t.depth t.shape + 1 ≡ 2 * length sums.entries
counted_leaves depth Reconstructed t sums keeps order =
    let tree = keeps.keeps.sound.tree in
    let long = ap length (leaves_in_order t sums tree order keeps.keeps.at) ∙ length-map (leaves t) (with_sum t) in
    keys_from_leaves t tree ∙ ap (λ n. 2 * n) (sym long)
counted_leaves depth Compressed t sums keeps order = absurd keeps

pub counted_differences : (depth : ℕ) (form : Form) (t : Tree) (tree : CompressedTree) → KeepsForm depth form t (KeptDifferences tree) → IsOrdered key_cmp tree.differences → key_count t.depth t.shape ≡ 2 * length tree.differences.entries + 1
counted_differences depth Reconstructed t tree keeps order = absurd keeps
counted_differences depth Compressed t tree keeps order =
    let is_tree = keeps.keeps.sound.tree in
    let long = ap length (differences_in_order t tree.differences is_tree order keeps.keeps.at) ∙ length-map (interior_keys t) (λ k. (k, difference t k)) in
    keys_from_interior t is_tree ∙ ap (λ n. 2 * n + 1) (sym long)
