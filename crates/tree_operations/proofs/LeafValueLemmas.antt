-- Leaves within the limit of values, box by box.
use Rattle.std.proofs.Common.{◌≡◌, ◌*◌, ◌≤◌, true, false, ◌||◌, inl, inr, sym, ◌∙◌, subst}
use Rattle.std.specs.Int.RustNames.{unsigned_abs}
use Rattle.std.proofs.lemmas.Bool.{cases_Bool, or_cases}
use Rattle.tree_key.specs.Keys.{Key, child, width}
use Rattle.tree_model.specs.Functions.{max_value}
use Rattle.tree_model.specs.Shapes.{is_leaf}
use Rattle.tree_model.specs.Trees.{Tree, IsTree, box_sum}
use Rattle.tree_model.proofs.CombinedTreeLemmas.{leaf_there}
use Rattle.tree_operations.specs.Numbers.{same_key}
use Rattle.tree_operations.specs.Filling.{under}
use Rattle.tree_operations.specs.LeafValues.{LeavesHaveValues}
use Rattle.tree_operations.proofs.ShapeLemmas.{no_leaf_below}
use Rattle.tree_operations.proofs.SubtreeLemmas.{under_split, same_key_holds}

-- a leaf is the only one at its key and below it
pub leaf_has_values : (t : Tree) (key : Key) → IsTree t → is_leaf t.shape key ≡ true → unsigned_abs (box_sum t key) ≤ width t.depth key * max_value → LeavesHaveValues t key
leaf_has_values t key tree leaf small = record {
  at = λ k inside is_one. elim (cases_Bool (same_key key k)) [
    | inl same ↦ subst (λ (other : Key). unsigned_abs (box_sum t other) ≤ width t.depth other * max_value) (same_key_holds key k same) small
    | inr apart ↦ absurd (let none = no_leaf_below t.depth t.shape key k tree.shape (leaf_there t.shape key leaf).whole inside apart in cc)
  ];
}

-- leaves below a key with children lie at or below one of these
pub halves_have_values : (t : Tree) (key : Key) → t.shape (child key false) ≡ true → LeavesHaveValues t (child key false) → LeavesHaveValues t (child key true) → LeavesHaveValues t key
halves_have_values t key cut left right = record {
  at = λ k inside is_one. elim (or_cases (same_key key k) (under (child key false) k || under (child key true) k) (sym (under_split key k) ∙ inside)) [
    | inl same ↦
        let leaf : is_leaf t.shape key ≡ true = subst (λ (other : Key). is_leaf t.shape other ≡ true) (sym (same_key_holds key k same)) is_one in
        absurd (let whole = (leaf_there t.shape key leaf).whole in cc)
    | inr below ↦ elim (or_cases (under (child key false) k) (under (child key true) k) below) [
      | inl first ↦ left.at k first is_one
      | inr second ↦ right.at k second is_one
    ]
  ];
}
