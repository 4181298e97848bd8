-- Lemmas that crates above use: coarsened trees: their keys, and that they are trees.
use Rattle.std.proofs.Common.{◌≡◌, ℕ, suc, zero, ◌+◌, ◌-◌, ◌^◌, ◌<◌, ◌≤◌, inl, inr, List, [], ◌∷◌, length, drop, get_or, Bool, true, false, not, ◌&&◌, Option, Some, refl, sym, ◌∙◌, ap, subst, arith, ℤ, pos}
use Rattle.std.specs.List.{slice_get}
use Rattle.std.specs.Option.{option_map_or}
use Rattle.std.proofs.lemmas.Bool.{cases_Bool, cases_eq, cases_lt, and_parts, not-true, lt-leb, eq-eqb, false_from_ne_true, false≢true}
use Rattle.std.proofs.lemmas.List.{get_or-take, get_or-drop}
use Rattle.std.proofs.lemmas.Option.{slice_get-get_or}
use Rattle.tree_key.specs.Keys.{Key, root, child, parent, width, first_cell, InBox}
use Rattle.tree_key.proofs.BoxLemmas.{same_key, first_in_box}
use Rattle.tree_key.proofs.FamilyLemmas.{parent_of_child, child_fits, half_fits}
use Rattle.tree_model.specs.CoarseningLaws.{CoarsenedIsTree, CoarsenedHaveValues, CoarsenedChildren, CoarsenedLeaves, CoarsenedIsLeast}
use Rattle.tree_model.specs.Operations.{coarsened}
use Rattle.tree_model.specs.Shapes.{IsShape, is_key_of}
use Rattle.tree_model.specs.Trees.{Tree, IsTree, has_one_value, is_constant}
use Rattle.tree_model.proofs.BelowLeafLemmas.{key_parts, key_from_parts, child_below_root, no_left_child}
use Rattle.tree_model.proofs.BoxSumLemmas.{Are, values_on, length_values_on}
use Rattle.tree_model.proofs.CombinedTreeLemmas.{twins}
use Rattle.tree_model.proofs.ConstantBoxLemmas.{constant_from_halves, whole_boxes_are_constant, one_value}
use Rattle.tree_model.proofs.LeafLemmas.{box_within}

-- whether a coarsened tree has a key of the depth, by the key's parent
abbrev has_below : Tree → Option Key → Bool
has_below t above = option_map_or (λ p. not (is_constant t p)) above true

pub coarsened_children : CoarsenedChildren
coarsened_children t k right key above =
    let parts = key_parts t.depth k key in
    let inside : is_key_of t.depth (child k right) ≡ true = key_from_parts t.depth (child k right) (omega arith) (child_fits k.level k.at right parts.at) in
    rw inside (ap (has_below t) (parent_of_child k right))

one_of_one : (zs : List ℤ) → length zs ≡ 1 → has_one_value zs ≡ true
one_of_one [] long = refl
one_of_one (z ∷ []) long = refl
one_of_one (z ∷ y ∷ zs) long = absurd (omega arith)

-- at the depth a box has one cell
one_cell : (t : Tree) (k : Key) → IsTree t → is_key_of t.depth k ≡ true → t.depth ≤ k.level → is_constant t k ≡ true
one_cell t k tree key deep =
    let parts = key_parts t.depth k key in
    let none : t.depth - k.level ≡ 0 = omega arith in
    one_of_one (values_on t.depth k t.cells) (length_values_on t k tree parts.level parts.at ∙ ap (λ n. 2 ^ n) none)

-- a key has no children at the depth
none_below : (t : Tree) (k : Key) → t.depth ≤ k.level → (coarsened t).shape (child k false) ≡ false
none_below t k deep = rw (lt-leb (k.level + 1) t.depth (omega arith)) refl

-- a key of the coarsened tree is one of the depth
key_of_depth : (t : Tree) (k : Key) → (coarsened t).shape k ≡ true → is_key_of t.depth k ≡ true
key_of_depth t k inside = (and_parts (is_key_of t.depth k) (has_below t (parent k)) inside).0

not_not : (b : Bool) → not (not b) ≡ b
not_not true = refl
not_not false = refl

leaf_where : (t : Tree) (k : Key) → IsTree t → (coarsened t).shape k ≡ true → not ((coarsened t).shape (child k false)) ≡ is_constant t k
leaf_where t k tree inside =
    let key = key_of_depth t k inside in
    elim (cases_lt k.level t.depth) [
      | inl above ↦ ap not (coarsened_children t k false key above) ∙ not_not (is_constant t k)
      | inr deep ↦ ap not (none_below t k deep) ∙ sym (one_cell t k tree key deep)
    ]

leaf_test : (inside : Bool) (whole constant : Bool) → (inside ≡ true → whole ≡ constant) → (inside && whole) ≡ (inside && constant)
leaf_test true whole constant same = same refl
leaf_test false whole constant same = refl

pub coarsened_leaves : CoarsenedLeaves
coarsened_leaves t k tree = leaf_test ((coarsened t).shape k) (not ((coarsened t).shape (child k false))) (is_constant t k) (leaf_where t k tree)

-- both halves of a box on which all values are the same
constant_half : (t : Tree) (k : Key) (right : Bool) → IsTree t → is_key_of t.depth k ≡ true → k.level < t.depth → is_constant t k ≡ true → is_constant t (child k right) ≡ true
constant_half t k true tree key above constant =
    let both = and_parts (is_constant t (child k false)) _ (sym (constant_from_halves t k tree key above) ∙ constant) in
    (and_parts (is_constant t (child k true)) _ both.1).0
constant_half t k false tree key above constant =
    (and_parts (is_constant t (child k false)) _ (sym (constant_from_halves t k tree key above) ∙ constant)).0

-- a key of the depth, below the root: its parent, which is one above the depth
record HasParent (t : Tree) (k : Key) : Type 0 where
  above : Key
  right : Bool
  made : child above right ≡ k
  key : is_key_of t.depth above ≡ true
  level : above.level < t.depth

with_parent : (t : Tree) (k : Key) → is_key_of t.depth k ≡ true → 0 < k.level → HasParent t k
with_parent t k key deep =
    let parts = key_parts t.depth k key in
    let family = child_below_root k deep in
    let p = family.above in
    let one_up : p.level + 1 ≡ k.level = ap (λ (c : Key). c.level) family.made in
    let places = subst (λ (c : Key). c.at < 2 ^ c.level) (sym family.made) parts.at in
    record {
      above = p;
      right = family.right;
      made = family.made;
      key = key_from_parts t.depth p (omega arith) (half_fits p.level p.at family.right places);
      level = omega arith;
    }

-- the root is in the tree, and each key on whose box the values differ
inside_at_root : (t : Tree) (k : Key) → is_key_of t.depth k ≡ true → k.level ≡ 0 → (coarsened t).shape k ≡ true
inside_at_root t k key top = rw (key, eq-eqb k.level 0 top) refl

inside_where_split : (t : Tree) (k : Key) → IsTree t → is_key_of t.depth k ≡ true → is_constant t k ≡ false → (coarsened t).shape k ≡ true
inside_where_split t k tree key differ = elim (cases_eq k.level 0) [
  | inl top ↦ inside_at_root t k key top
  | inr below ↦
      let p = with_parent t k key (omega arith) in
      let inside : is_constant t (child p.above p.right) ≡ false → (coarsened t).shape (child p.above p.right) ≡ true = λ half. (
      coarsened_children t p.above p.right p.key p.level
      ∙ ap not (false_from_ne_true (is_constant t p.above) (λ constant. false≢true (sym half ∙ constant_half t p.above p.right tree p.key p.level constant)))) in
      subst (λ (c : Key). is_constant t c ≡ false → (coarsened t).shape c ≡ true) p.made inside differ
]

-- above a key of the tree the values differ
split_above : (t : Tree) (k : Key) (right : Bool) → (coarsened t).shape (child k right) ≡ true → (is_key_of t.depth k ≡ true) × (is_constant t k ≡ false)
split_above t k right inside =
    let key = key_of_depth t (child k right) inside in
    let parts = key_parts t.depth (child k right) key in
    let own = key_from_parts t.depth k (omega (arith, parts.level)) (half_fits k.level k.at right parts.at) in
    (own, not-true (is_constant t k) (sym (coarsened_children t k right own (omega (arith, parts.level))) ∙ inside))

coarsened_shape : (t : Tree) → IsTree t → IsShape t.depth (coarsened t).shape
coarsened_shape t tree = record {
  keys = key_of_depth t;
  root = inside_at_root t root (key_from_parts t.depth root (omega arith) (omega arith)) refl;
  parents = λ k right inside. (let above = split_above t k right inside in inside_where_split t k tree above.0 above.1);
  children = λ k. rw (twins t.depth k) (ap (λ o. is_key_of t.depth (child k false) && has_below t o) (parent_of_child k true ∙ sym (parent_of_child k false)));
}

are_at : (value : ℤ) (zs : List ℤ) (i : ℕ) → Are value zs → i < length zs → get_or zs i (pos 0) ≡ value
are_at value [] i are below = absurd (omega arith)
are_at value (z ∷ zs) zero are below = are.0
are_at value (z ∷ zs) (suc i) are below = are_at value zs i are.1 (omega arith)

-- at each cell of a box on which all values are the same
value_at_cell : (t : Tree) (k : Key) (i : ℕ) (value : ℤ) → IsTree t → is_key_of t.depth k ≡ true → Are value (values_on t.depth k t.cells) → i < width t.depth k → slice_get t.cells (first_cell t.depth k + i) ≡ Some value
value_at_cell t k i value tree key are within =
    let parts = key_parts t.depth k key in
    let first = first_cell t.depth k in
    let room = box_within t.depth k parts.level parts.at in
    let long = length_values_on t k tree parts.level parts.at in
    let there : first + i < length t.cells = omega (arith, tree.cells) in
    let at : get_or t.cells (first + i) (pos 0) ≡ value = (sym (get_or-drop first t.cells i (pos 0)) ∙ sym (get_or-take (width t.depth k) (drop first t.cells) i (pos 0) within) ∙ are_at value (values_on t.depth k t.cells) i are (omega arith)) in
    slice_get-get_or t.cells (first + i) (pos 0) there ∙ ap Some at

same_on_box : (t : Tree) (k : Key) (cell : ℕ) → IsTree t → is_key_of t.depth k ≡ true → is_constant t k ≡ true → InBox t.depth k cell → slice_get t.cells cell ≡ slice_get t.cells (first_cell t.depth k)
same_on_box t k cell tree key constant inside =
    let first = first_cell t.depth k in
    let one = one_value (values_on t.depth k t.cells) constant in
    let at : (c : ℕ) → InBox t.depth k c → slice_get t.cells c ≡ Some one.value = λ c is. (
    let way : first + (c - first) ≡ c = omega (arith, is.from) in
    subst (λ n. slice_get t.cells n ≡ Some one.value) way (value_at_cell t k (c - first) one.value tree key one.are (omega (arith, is.from, is.below)))) in
    at cell inside ∙ sym (at first (first_in_box t.depth k))

pub coarsened_tree : CoarsenedIsTree
coarsened_tree t tree = record {
  cells = tree.cells;
  shape = coarsened_shape t tree;
  constant = λ leaf cell is inside. (
      let parts = and_parts ((coarsened t).shape leaf) (is_constant t leaf) (sym (coarsened_leaves t leaf tree) ∙ is) in
      same_on_box t leaf cell tree (key_of_depth t leaf parts.0) parts.1 inside);
}

pub coarsened_values : CoarsenedHaveValues
coarsened_values t values = values

-- a child that another tree of the values lacks, although the values on its parent's box differ
pub coarsened_least : CoarsenedIsLeast
coarsened_least t other k tree depth cells inside =
    let key = key_of_depth t k inside in
    let own : is_key_of other.depth k ≡ true = subst (λ d. is_key_of d k ≡ true) (sym depth) key in
    elim (cases_eq k.level 0) [
      | inl top ↦
          let parts = key_parts t.depth k key in
          let at : k.at ≡ 0 = omega (arith, parts.at, ap (λ n. 2 ^ n) top) in
          subst (λ (r : Key). other.shape r ≡ true) (same_key root k (sym top) (sym at)) tree.shape.root
      | inr below ↦
          let p = with_parent t k key (omega arith) in
          let differ = (split_above t p.above p.right (subst (λ (c : Key). (coarsened t).shape c ≡ true) (sym p.made) inside)).1 in
          let same : is_constant other p.above ≡ is_constant t p.above = (ap (λ d. has_one_value (values_on d p.above other.cells)) depth ∙ ap (λ zs. has_one_value (values_on t.depth p.above zs)) cells) in
          let there : other.shape (child p.above p.right) ≡ true = elim (cases_Bool (other.shape (child p.above p.right))) [
            | inl here ↦ here
            | inr absent ↦ absurd (false≢true (sym differ ∙ sym same ∙ whole_boxes_are_constant other p.above tree (record {
              key = subst (λ d. is_key_of d p.above ≡ true) (sym depth) p.key;
              uncut = no_left_child other.depth other.shape p.above p.right tree.shape absent;
            })))
          ] in
          subst (λ (c : Key). other.shape c ≡ true) p.made there
    ]
