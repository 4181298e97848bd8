-- The numbers that are kept of a tree at its keys, as the entries of a map.
use Rattle.std.proofs.Common.{◌≡◌, true, false, not, sym, ◌∙◌, ap}
use Rattle.std.specs.BTreeMap.{is_at}
use Rattle.std.specs.Map.{lookup}
use Rattle.std.proofs.lemmas.Bool.{and_parts}
use Rattle.tree_key.specs.Keys.{Key, child, key_cmp}
use Rattle.tree_model.specs.Rows.{leaf_sums}
use Rattle.tree_model.specs.Shapes.{is_key_of, is_leaf, is_interior}
use Rattle.tree_model.specs.Trees.{Tree, IsTree, box_sum, difference}
use Rattle.tree_model.specs.StoredTrees.{leaf_sum_at, difference_at, interior_differences, LeavesInOrder, DifferencesInOrder, LeavesAtKeys}
use Rattle.tree_model.proofs.SameEntryLemmas.{same_entries}
use Rattle.tree_model.proofs.KeyOrderLemmas.{found_there, made_in_order}

leaf_of_depth : (t : Tree) (k : Key) → IsTree t → is_leaf t.shape k ≡ true → is_key_of t.depth k ≡ true
leaf_of_depth t k tree is = tree.shape.keys k (and_parts (t.shape k) (not (t.shape (child k false))) is).0

interior_of_depth : (t : Tree) (k : Key) → IsTree t → is_interior t.shape k ≡ true → is_key_of t.depth k ≡ true
interior_of_depth t k tree is = tree.shape.keys k (and_parts (t.shape k) (t.shape (child k false)) is).0

-- what the leaves' sums have at a key
sum_found : (t : Tree) (k : Key) → IsTree t → lookup (is_at (key_cmp k)) (leaf_sums t) ≡ leaf_sum_at t k
sum_found t k tree = found_there (is_leaf t.shape) (box_sum t) t.depth k (leaf_of_depth t k tree)

difference_found : (t : Tree) (k : Key) → IsTree t → lookup (is_at (key_cmp k)) (interior_differences t) ≡ difference_at t k
difference_found t k tree = found_there (is_interior t.shape) (difference t) t.depth k (interior_of_depth t k tree)

pub sums_in_order : LeavesInOrder
sums_in_order t m tree ordered at =
    same_entries m.entries (leaf_sums t) ordered (made_in_order (is_leaf t.shape) (box_sum t) t.depth) (λ k. at k ∙ sym (sum_found t k tree))

pub interior_in_order : DifferencesInOrder
interior_in_order t m tree ordered at =
    same_entries m.entries (interior_differences t) ordered (made_in_order (is_interior t.shape) (difference t) t.depth) (λ k. at k ∙ sym (difference_found t k tree))

pub sums_at_keys : LeavesAtKeys
sums_at_keys t m k tree entries = ap (λ es. lookup (is_at (key_cmp k)) es) entries ∙ sum_found t k tree
