-- Lemmas that crates above use: sums at leaves, where a tree has one value: those of a product, and those that show an
-- overflow.
use Rattle.std.proofs.Common.{◌≡◌, ℕ, zero, suc, ◌+◌, ◌-◌, ◌*◌, ◌^◌, ◌<◌, ◌≤◌, List, [], ◌∷◌, length, take, drop, get_or, Bool, true, false, not, Some, inl, inr, refl, sym, ◌∙◌, ap, subst, arith, ℤ, pos, ◌*ℤ◌}
use Rattle.std.specs.Int.RustNames.{unsigned_abs}
use Rattle.std.specs.List.{slice_get, list_any}
use Rattle.std.proofs.lemmas.Bool.{not-true, not_from_false, leb-false, lt-leb, or_parts, or_cases, false_from_ne_true}
use Rattle.std.proofs.lemmas.Int.{unsigned_abs-mul}
use Rattle.std.proofs.lemmas.List.{length-take, length-drop}
use Rattle.std.proofs.lemmas.List.Folds.{list_any_at}
use Rattle.std.proofs.lemmas.Nat.{pow_pos}
use Rattle.std.proofs.lemmas.Option.{slice_get-get_or}
use Rattle.std.proofs.Math.IntN.{suc_ℤ-*ℤ, zero-*ℤ, +ℤ_comm, *ℤ_comm}
use Rattle.std.proofs.Math.Nat.{mul-lt-mul_of_pos_left, lt_of_mul-lt-mul_left}
use Rattle.tree_key.specs.Keys.{Key, child, width, first_cell, InBox}
use Rattle.tree_key.proofs.BoxLemmas.{cells_from_contains}
use Rattle.tree_model.specs.Functions.{max_value, is_value}
use Rattle.tree_model.specs.OperationLaws.{ProductOnLeaves, OverflowOnLeaves, IsOverLeaf}
use Rattle.tree_model.specs.Operations.{union, product, overflows}
use Rattle.tree_model.specs.Shapes.{is_key_of, is_leaf}
use Rattle.tree_model.specs.Trees.{Tree, IsTree, total, box_sum}
use Rattle.tree_model.proofs.BelowLeafLemmas.{key_parts, key_from_parts, leaf_above, constant_below}
use Rattle.tree_model.proofs.CombinedTreeLemmas.{leaf_there, value_in_zip, tree_at, product_tree}
use Rattle.tree_model.proofs.CombinedSumLemmas.{slice}
use Rattle.tree_model.proofs.IntegerLemmas.{times_times}
use Rattle.tree_model.proofs.LeafLemmas.{box_within}

-- the total of a list that has one value
total_same : (xs : List ℤ) (v : ℤ) → ((i : ℕ) → i < length xs → slice_get xs i ≡ Some v) → total xs ≡ pos (length xs) *ℤ v
total_same [] v each = sym (zero-*ℤ v)
total_same (x ∷ xs) v each =
    let rest = total_same xs v (λ i below. each (suc i) (omega arith)) in
    let here : Some x ≡ Some v = each 0 (omega arith) in
    let first : x ≡ v = cc in
    rw (first, rest) (+ℤ_comm v (pos (length xs) *ℤ v) ∙ sym (suc_ℤ-*ℤ (pos (length xs)) v))

slice_get_take : {X : Type 0} (n : ℕ) (xs : List X) (i : ℕ) → i < n → slice_get (take n xs) i ≡ slice_get xs i
slice_get_take zero xs i below = absurd (omega arith)
slice_get_take (suc n) [] i below = refl
slice_get_take (suc n) (x ∷ xs) zero below = refl
slice_get_take (suc n) (x ∷ xs) (suc i) below = slice_get_take n xs i (omega arith)

slice_get_drop : {X : Type 0} (n : ℕ) (xs : List X) (i : ℕ) → slice_get (drop n xs) i ≡ slice_get xs (n + i)
slice_get_drop zero xs i = let none : 0 + i ≡ i = omega arith in rw none refl
slice_get_drop (suc n) [] i = refl
slice_get_drop (suc n) (x ∷ xs) i =
    let some : suc n + i ≡ suc (n + i) = omega arith in
    rw some (slice_get_drop n xs i)

-- the sum over a stretch that has one value
total_slice :
    (from count : ℕ) (xs : List ℤ) (v : ℤ) →
    from + count ≤ length xs →
    ((cell : ℕ) → from ≤ cell → cell < from + count → slice_get xs cell ≡ Some v) →
    total (slice from count xs) ≡ pos count *ℤ v
total_slice from count xs v room each =
    let left = length-drop from xs in
    let all : length (slice from count xs) ≡ count = (length-take count (drop from xs) ∙ omega arith) in
    let at : (i : ℕ) → i < count → slice_get (slice from count xs) i ≡ Some v = λ i below. slice_get_take count (drop from xs) i below ∙ slice_get_drop from xs i ∙ each (from + i) (omega arith) (omega arith) in
    total_same (slice from count xs) v (λ i below. at i (omega arith)) ∙ ap (λ n. pos n *ℤ v) all

-- the value at the first cell of a box
abbrev pub first_value : Tree → Key → ℤ
first_value t k = get_or t.cells (first_cell t.depth k) (pos 0)

-- the first cell of a key of the depth is a cell
first_within : (depth : ℕ) (k : Key) → is_key_of depth k ≡ true → first_cell depth k < 2 ^ depth
first_within depth k key =
    let parts = key_parts depth k key in
    let room = box_within depth k parts.level parts.at in
    let some = pow_pos (depth - k.level) in
    omega arith

first_is : (t : Tree) (k : Key) → IsTree t → is_key_of t.depth k ≡ true → slice_get t.cells (first_cell t.depth k) ≡ Some (first_value t k)
first_is t k is key =
    let within = first_within t.depth k key in
    let cells = is.cells in
    slice_get-get_or t.cells (first_cell t.depth k) (pos 0) (omega arith)

-- the sum over the box of a key without children
pub sum_whole : (t : Tree) (k : Key) → IsTree t → is_key_of t.depth k ≡ true → t.shape (child k false) ≡ false → box_sum t k ≡ pos (width t.depth k) *ℤ first_value t k
sum_whole t k is key none =
    let parts = key_parts t.depth k key in
    let room = box_within t.depth k parts.level parts.at in
    let cells = is.cells in
    total_slice (first_cell t.depth k) (width t.depth k) t.cells (first_value t k) (omega arith)
    (λ cell low high. constant_below t k cell is key none (record { from = low; below = high }) ∙ first_is t k is key)

sum_leaf : (t : Tree) (k : Key) → IsTree t → is_leaf t.shape k ≡ true → box_sum t k ≡ pos (width t.depth k) *ℤ first_value t k
sum_leaf t k is leaf =
    let parts = leaf_there t.shape k leaf in
    sum_whole t k is (is.shape.keys k parts.inside) parts.whole

regroup : (w v u : ℤ) → w *ℤ (v *ℤ u) *ℤ w ≡ w *ℤ v *ℤ (w *ℤ u)
regroup w v u = ap (λ z. z *ℤ w) (sym (times_times w v u)) ∙ times_times (w *ℤ v) u w ∙ ap (λ z. w *ℤ v *ℤ z) (*ℤ_comm u w)

-- both trees have one value on a leaf of their product, and the sums over it are the width times these and their product
pub record HasProduct (f g : Tree) (k : Key) : Type 0 where
  pub left : ℤ
  pub right : ℤ
  pub left_sum : box_sum f k ≡ pos (width f.depth k) *ℤ left
  pub right_sum : box_sum g k ≡ pos (width f.depth k) *ℤ right
  pub sum : box_sum (product f g) k ≡ pos (width f.depth k) *ℤ (left *ℤ right)

pub product_on_one_leaf : (f g : Tree) (k : Key) → IsTree f → IsTree g → f.depth ≡ g.depth → is_leaf (union f.shape g.shape) k ≡ true → HasProduct f g k
product_on_one_leaf f g k is is_own same leaf =
    let other : Tree = record { depth = f.depth; cells = g.cells; shape = g.shape } in
    let is_other : IsTree other = tree_at f.depth g same is_own in
    let made : Tree = product f g in
    let is_made : IsTree made = product_tree f g is is_own same in
    let parts = leaf_there (union f.shape g.shape) k leaf in
    let key = is_made.shape.keys k parts.inside in
    let none = or_parts (f.shape (child k false)) (g.shape (child k false)) parts.whole in
    let w = pos (width f.depth k) in
    let v = first_value f k in
    let u = first_value other k in
    let value : slice_get made.cells (first_cell f.depth k) ≡ Some (v *ℤ u) = value_in_zip (λ p. p.0 *ℤ p.1) f.cells g.cells (first_cell f.depth k) v u (first_is f k is key) (first_is other k is_other key) in
    let there : slice_get made.cells (first_cell f.depth k) ≡ Some (first_value made k) = first_is made k is_made key in
    let values : Some (first_value made k) ≡ Some (v *ℤ u) = sym there ∙ value in
    let first : first_value made k ≡ v *ℤ u = cc in
    let own : box_sum g k ≡ box_sum other k = ap (λ d. total (slice (first_cell d k) (width d k) g.cells)) (sym same) in
    record {
      left = v;
      right = u;
      left_sum = sum_whole f k is key none.0;
      right_sum = own ∙ sum_whole other k is_other key none.1;
      sum = sum_leaf made k is_made leaf ∙ ap (λ z. w *ℤ z) first;
    }

pub product_leaves : ProductOnLeaves
product_leaves f g k is is_own same leaf =
    let on_leaf = product_on_one_leaf f g k is is_own same leaf in
    rw (on_leaf.sum, on_leaf.left_sum, on_leaf.right_sum) (regroup (pos (width f.depth k)) on_leaf.left on_leaf.right)

-- a place of a list whose element passes a test
record Passes (p : ℤ → Bool) (zs : List ℤ) : Type 0 where
  at : ℕ
  within : at < length zs
  passes : p (get_or zs at (pos 0)) ≡ true

passing : (p : ℤ → Bool) (zs : List ℤ) → list_any p zs ≡ true → Passes p zs
passing p [] any = cc
passing p (z ∷ zs) any = elim (or_cases (p z) (list_any p zs) any) [
  | inl here ↦ record { at = 0; within = omega arith; passes = here }
  | inr later ↦
      let rest = passing p zs later in
      record { at = suc rest.at; within = omega (arith, rest.within); passes = rest.passes }
]

above_limit : (z : ℤ) → not (is_value z) ≡ true → max_value < unsigned_abs z
above_limit z is = leb-false (unsigned_abs z) max_value (not-true (is_value z) is)

-- the key of one cell
abbrev cell_key : ℕ → ℕ → Key
cell_key depth cell = record { level = depth; at = cell }

in_cell_key : (depth cell : ℕ) → InBox depth (cell_key depth cell) cell
in_cell_key depth cell =
    let none : depth - depth ≡ 0 = omega arith in
    let one : 2 ^ (depth - depth) ≡ 1 = ap (λ n. 2 ^ n) none in
    let start : cell * 2 ^ (depth - depth) ≡ cell = (ap (λ n. cell * n) one ∙ omega arith) in
    record { from = omega arith; below = omega arith }

-- some leaf has the cell of a value that is too much
pub leaf_overflows : (t : Tree) → IsTree t → overflows t ≡ true → (k : Key) × IsOverLeaf t k
leaf_overflows t is over =
    let found = passing (λ z. not (is_value z)) t.cells over in
    let cell = found.at in
    let cells = is.cells in
    let k = cell_key t.depth cell in
    let key : is_key_of t.depth k ≡ true = key_from_parts t.depth k (omega arith) (omega (arith, found.within)) in
    let none : t.shape (child k false) ≡ false = false_from_ne_true (t.shape (child k false)) (λ inside. let level = (key_parts t.depth (child k false) (is.shape.keys (child k false) inside)).level in omega arith) in
    let leaf = leaf_above t.depth t.shape k is.shape key none in
    let inside : InBox t.depth leaf.leaf cell = cells_from_contains t.depth leaf.leaf k (omega arith) leaf.over cell (in_cell_key t.depth cell) in
    let leaf_key = is.shape.keys leaf.leaf (leaf_there t.shape leaf.leaf leaf.is).inside in
    let there : Some (get_or t.cells cell (pos 0)) ≡ Some (first_value t leaf.leaf) = (sym (slice_get-get_or t.cells cell (pos 0) found.within) ∙ is.constant leaf.leaf cell leaf.is inside ∙ first_is t leaf.leaf is leaf_key) in
    let value : get_or t.cells cell (pos 0) ≡ first_value t leaf.leaf = cc in
    let much : max_value < unsigned_abs (first_value t leaf.leaf) = subst (λ z. max_value < unsigned_abs z) value (above_limit (get_or t.cells cell (pos 0)) found.passes) in
    let w = width t.depth leaf.leaf in
    let size : unsigned_abs (box_sum t leaf.leaf) ≡ w * unsigned_abs (first_value t leaf.leaf) = (ap unsigned_abs (sum_leaf t leaf.leaf is leaf.is) ∙ unsigned_abs-mul (pos w) (first_value t leaf.leaf)) in
    (leaf.leaf, record { leaf = leaf.is; over = rw size (mul-lt-mul_of_pos_left much (pow_pos (t.depth - leaf.leaf.level))) })

pub leaf_shows : (t : Tree) → IsTree t → ((k : Key) × IsOverLeaf t k) → overflows t ≡ true
leaf_shows t is shown =
    let k = shown.0 in
    let leaf = shown.1.leaf in
    let key = is.shape.keys k (leaf_there t.shape k leaf).inside in
    let w = width t.depth k in
    let v = first_value t k in
    let cells = is.cells in
    let size : unsigned_abs (box_sum t k) ≡ w * unsigned_abs v = (ap unsigned_abs (sum_leaf t k is leaf) ∙ unsigned_abs-mul (pos w) v) in
    let over : w * max_value < w * unsigned_abs v = subst (λ n. w * max_value < n) size shown.1.over in
    let much : max_value < unsigned_abs v = lt_of_mul-lt-mul_left w over in
    let within = first_within t.depth k key in
    list_any_at (λ z. not (is_value z)) t.cells (first_cell t.depth k) (pos 0) (omega arith) (not_from_false (is_value v) (lt-leb (unsigned_abs v) max_value much))

pub overflow_leaves : OverflowOnLeaves
overflow_leaves t is = (leaf_overflows t is, leaf_shows t is)
