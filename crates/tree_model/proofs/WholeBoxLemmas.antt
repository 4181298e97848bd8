-- The sums over boxes that a tree doesn't cut: a leaf's, or one below it.
use Rattle.std.proofs.Common.{◌≡◌, ℕ, ◌<◌, Bool, true, false, unwrap_or, inl, inr, sym, ◌∙◌, ap, arith, pos, ◌*ℤ◌}
use Rattle.std.proofs.lemmas.Bool.{false_from_ne_true}
use Rattle.std.proofs.lemmas.Int.{ints}
use Rattle.std.proofs.lemmas.Option.{unwrap_or-slice_get}
use Rattle.tree_key.specs.Keys.{Key, child, width, first_cell, InBox}
use Rattle.tree_key.proofs.BoxLemmas.{children_halve_the_box, first_in_box}
use Rattle.tree_key.proofs.FamilyLemmas.{child_fits}
use Rattle.tree_model.specs.Functions.{max_value}
use Rattle.tree_model.specs.Shapes.{IsShape}
use Rattle.tree_model.specs.Trees.{Tree, IsTree, box_sum}
use Rattle.tree_model.specs.StoredTrees.{IsWhole, WholeBoxesAreEven, WholeBoxesHaveOneValue}
use Rattle.tree_model.proofs.BelowLeafLemmas.{key_parts, key_from_parts, constant_below}
use Rattle.tree_model.proofs.BoundLemmas.{box_total_within, no_rest}
use Rattle.tree_model.proofs.LeafSumLemmas.{first_value, sum_whole}

-- a key without a left child has no right one
no_child : (depth : ℕ) (shape : Key → Bool) (k : Key) (right : Bool) → IsShape depth shape → shape (child k false) ≡ false → shape (child k right) ≡ false
no_child depth shape k true is none = is.children k ∙ none
no_child depth shape k false is none = none

-- a half of a whole box is whole
whole_half : (t : Tree) (k : Key) (right : Bool) → IsTree t → IsWhole t k → k.level < t.depth → IsWhole t (child k right)
whole_half t k right tree whole above =
    let parts = key_parts t.depth k whole.key in
    let half = child k right in
    let absent : t.shape half ≡ false = no_child t.depth t.shape k right tree.shape whole.uncut in
    record {
      key = key_from_parts t.depth half (omega arith) (child_fits k.level k.at right parts.at);
      uncut = false_from_ne_true (t.shape (child half false)) (λ inside. (let parent = tree.shape.parents half false inside in cc));
    }

-- the first cell of a half lies in the box
first_in_whole : (depth : ℕ) (k : Key) (right : Bool) → k.level < depth → InBox depth k (first_cell depth (child k right))
first_in_whole depth k true above =
    let half = child k true in
    ((children_halve_the_box depth k above).cells (first_cell depth half)).1 (inr (first_in_box depth half))
first_in_whole depth k false above =
    let half = child k false in
    ((children_halve_the_box depth k above).cells (first_cell depth half)).1 (inl (first_in_box depth half))

-- and has the value of the box
value_of_half : (t : Tree) (k : Key) (right : Bool) → IsTree t → IsWhole t k → k.level < t.depth → first_value t (child k right) ≡ first_value t k
value_of_half t k right tree whole above =
    let cell = first_cell t.depth (child k right) in
    let same = constant_below t k cell tree whole.key whole.uncut (first_in_whole t.depth k right above) in
    sym (unwrap_or-slice_get t.cells cell (pos 0))
    ∙ ap (λ o. unwrap_or o (pos 0)) same
    ∙ unwrap_or-slice_get t.cells (first_cell t.depth k) (pos 0)

-- the sum over a half
sum_of_half : (t : Tree) (k : Key) (right : Bool) → IsTree t → IsWhole t k → k.level < t.depth → box_sum t (child k right) ≡ pos (width t.depth (child k false)) *ℤ first_value t k
sum_of_half t k right tree whole above =
    let half = whole_half t k right tree whole above in
    sum_whole t (child k right) tree half.key half.uncut
    ∙ ap (λ v. pos (width t.depth (child k false)) *ℤ v) (value_of_half t k right tree whole above)

pub boxes_are_even : WholeBoxesAreEven
boxes_are_even t k tree whole above =
    let left = sum_of_half t k false tree whole above in
    let right = sum_of_half t k true tree whole above in
    let same : box_sum t (child k false) ≡ box_sum t (child k true) = left ∙ sym right in
    omega (arith, ints)

pub boxes_have_one_value : WholeBoxesHaveOneValue
boxes_have_one_value t k tree values whole = record {
  exact = rw (sum_whole t k tree whole.key whole.uncut) (no_rest (width t.depth k) (first_value t k));
  within = box_total_within max_value t.depth k t.cells values;
}
