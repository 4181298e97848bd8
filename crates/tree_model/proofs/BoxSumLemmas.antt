-- Lemmas that crates above use: the values of a list on the boxes of keys, and their sums.
use Rattle.std.proofs.Common.{◌≡◌, ℕ, suc, ◌+◌, ◌^◌, ◌<◌, ◌≤◌, List, [], ◌∷◌, ◌++◌, length, map, take, drop, get_or, unwrap_or, true, false, not, leb, ltb, ℤ, pos, ◌+ℤ◌, ◌*ℤ◌, sym, ◌∙◌, ap, arith}
use Rattle.std.specs.List.{AllByRecursion}
use Rattle.std.proofs.lemmas.Bool.{and_parts, leb-true, ltb-true}
use Rattle.std.proofs.lemmas.List.{length-take, length-drop, get_or-take, get_or-drop, drop-drop}
use Rattle.std.proofs.lemmas.Option.{unwrap_or-slice_get}
use Rattle.std.proofs.Math.Seq.{take-add}
use Rattle.std.proofs.Math.IntN.{suc_ℤ-*ℤ, +ℤ_comm, +ℤ_idl, +ℤ_idr, +ℤ_assoc, zero-*ℤ}
use Rattle.tree_key.specs.Keys.{Key, child, width, first_cell}
use Rattle.tree_key.proofs.BoxLemmas.{children_halve_the_box}
use Rattle.tree_model.specs.Shapes.{is_leaf}
use Rattle.tree_model.specs.Trees.{Tree, IsTree, total, box_sum}
use Rattle.tree_model.specs.Rows.{both}
use Rattle.tree_model.specs.Laws.{LeavesHaveOneValue}
use Rattle.tree_model.proofs.LeafLemmas.{box_within}

-- the values of a list of cells on the box of a key
abbrev pub values_on : ℕ → Key → List ℤ → List ℤ
values_on depth k cells = take (width depth k) (drop (first_cell depth k) cells)

pub total_append : (xs ys : List ℤ) → total (xs ++ ys) ≡ total xs +ℤ total ys
total_append [] ys = sym (+ℤ_idl (total ys))
total_append (x ∷ xs) ys = ap (λ n. x +ℤ n) (total_append xs ys) ∙ sym (+ℤ_assoc x (total xs) (total ys))

-- the first n of a list, and then the n after them
front_and_next : (n from next : ℕ) (zs : List ℤ) → next ≡ from + n → take (n + n) (drop from zs) ≡ take n (drop from zs) ++ take n (drop next zs)
front_and_next n from next zs e =
    take-add n n (drop from zs)
    ∙ ap (λ rest. take n (drop from zs) ++ take n rest) (drop-drop n from zs ∙ ap (λ m. drop m zs) (sym e))

-- a box has the cells of its left half and then those of its right half
pub values_on_halves : (depth : ℕ) (k : Key) (cells : List ℤ) → k.level < depth → values_on depth k cells ≡ values_on depth (child k false) cells ++ values_on depth (child k true) cells
values_on_halves depth k cells above =
    let law = children_halve_the_box depth k above in
    let half = width depth (child k false) in
    let whole : width depth k ≡ half + half = omega (arith, law.half false) in
    let start = first_cell depth (child k false) in
    let next : first_cell depth (child k true) ≡ start + half = omega (arith, law.left, law.right) in
    ap (λ n. take n (drop (first_cell depth k) cells)) whole
    ∙ ap (λ n. take (half + half) (drop n cells)) (sym law.left)
    ∙ front_and_next half start (first_cell depth (child k true)) cells next

-- the sum over a box is that of the sums over its children's boxes
pub total_values_on : (depth : ℕ) (k : Key) (cells : List ℤ) → k.level < depth → total (values_on depth k cells) ≡ total (map (λ c. total (values_on depth c cells)) (both k))
total_values_on depth k cells above =
    let left = values_on depth (child k false) cells in
    let right = values_on depth (child k true) cells in
    ap total (values_on_halves depth k cells above)
    ∙ total_append left right
    ∙ ap (λ n. total left +ℤ n) (sym (+ℤ_idr (total right)))

pub box_sum_children : (t : Tree) (k : Key) → k.level < t.depth → box_sum t k ≡ box_sum t (child k false) +ℤ box_sum t (child k true)
box_sum_children t k above =
    total_values_on t.depth k t.cells above ∙ ap (λ n. box_sum t (child k false) +ℤ n) (+ℤ_idr (box_sum t (child k true)))

-- all values are this one
abbrev pub Are : ℤ → List ℤ → Type 0
Are value zs = AllByRecursion (λ z. z ≡ value) zs

pub are_from_each : (value : ℤ) (zs : List ℤ) → ((i : ℕ) → i < length zs → get_or zs i (pos 0) ≡ value) → Are value zs
are_from_each value [] each = tt
are_from_each value (z ∷ zs) each =
    (each 0 (omega arith), are_from_each value zs (λ i below. each (suc i) (omega arith)))

pub total_are : (value : ℤ) (zs : List ℤ) → Are value zs → total zs ≡ pos (length zs) *ℤ value
total_are value [] are = sym (zero-*ℤ value)
total_are value (z ∷ zs) are =
    rw (are.0, total_are value zs are.1) (+ℤ_comm value (pos (length zs) *ℤ value) ∙ sym (suc_ℤ-*ℤ (pos (length zs)) value))

-- what a leaf of a tree keeps: its box lies among the cells, and has one value
pub record IsLeafOf (t : Tree) (leaf : Key) (value : ℤ) : Type 0 where
  pub level : leaf.level ≤ t.depth
  pub at : leaf.at < 2 ^ leaf.level
  pub length : length (values_on t.depth leaf t.cells) ≡ width t.depth leaf
  pub values : Are value (values_on t.depth leaf t.cells)

-- a key of a tree's shape is a key of its depth
pub key_of_tree : (t : Tree) (k : Key) → IsTree t → t.shape k ≡ true → (k.level ≤ t.depth) × (k.at < 2 ^ k.level)
key_of_tree t k tree has =
    let tests = and_parts (leb k.level t.depth) (ltb k.at (2 ^ k.level)) (tree.shape.keys k has) in
    (leb-true k.level t.depth tests.0, ltb-true k.at (2 ^ k.level) tests.1)

-- on a key's box there are as many values as it has cells
pub length_values_on : (t : Tree) (k : Key) → IsTree t → k.level ≤ t.depth → k.at < 2 ^ k.level → length (values_on t.depth k t.cells) ≡ width t.depth k
length_values_on t k tree level at =
    let room = box_within t.depth k level at in
    length-take (width t.depth k) (drop (first_cell t.depth k) t.cells)
    ∙ omega (arith, length-drop (first_cell t.depth k) t.cells, tree.cells, room)

pub leaf_of_tree : (t : Tree) (leaf : Key) → IsTree t → is_leaf t.shape leaf ≡ true → IsLeafOf t leaf (get_or t.cells (first_cell t.depth leaf) (pos 0))
leaf_of_tree t leaf tree is =
    let key = key_of_tree t leaf tree (and_parts (t.shape leaf) (not (t.shape (child leaf false))) is).0 in
    let first = first_cell t.depth leaf in
    let long = length_values_on t leaf tree key.0 key.1 in
    record {
      level = key.0;
      at = key.1;
      length = long;
      values = are_from_each (get_or t.cells first (pos 0)) (values_on t.depth leaf t.cells) (λ i below.
          (let within : i < width t.depth leaf = omega (arith, long) in
          let same = tree.constant leaf (first + i) is (record { from = omega arith; below = omega arith }) in
          get_or-take (width t.depth leaf) (drop first t.cells) i (pos 0) within
          ∙ get_or-drop first t.cells i (pos 0)
          ∙ sym (unwrap_or-slice_get t.cells (first + i) (pos 0))
          ∙ ap (λ o. unwrap_or o (pos 0)) same
          ∙ unwrap_or-slice_get t.cells first (pos 0)));
    }

pub leaves_have_one_value : LeavesHaveOneValue
leaves_have_one_value t leaf cell value tree is inside at =
    let first = first_cell t.depth leaf in
    let known = leaf_of_tree t leaf tree is in
    let same : get_or t.cells first (pos 0) ≡ value = (sym (unwrap_or-slice_get t.cells first (pos 0)) ∙ ap (λ o. unwrap_or o (pos 0)) (sym (tree.constant leaf cell is inside) ∙ at)) in
    total_are (get_or t.cells first (pos 0)) (values_on t.depth leaf t.cells) known.values
    ∙ ap (λ n. pos n *ℤ get_or t.cells first (pos 0)) known.length
    ∙ ap (λ z. pos (width t.depth leaf) *ℤ z) same
