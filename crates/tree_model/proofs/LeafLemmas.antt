-- Lemmas that crates above use: on the box of a leaf a projected tree is constant: it has the function's value at the
-- box's first cell.
use Rattle.std.proofs.Common.{◌≡◌, ℕ, zero, suc, ◌+◌, ◌-◌, ◌*◌, ◌/◌, ◌^◌, ◌<◌, ◌≤◌, length, map, Bool, true, false, not, ◌&&◌, ltb, leb, get_or, refl, sym, ◌∙◌, ap, subst, arith, zero-add, ℤ, pos, negsuc, ◌*ℤ◌}
use Rattle.std.specs.List.{range_with_len, list_all, position_or_len}
use Rattle.std.proofs.lemmas.Bool.{and_parts, leb-true, ltb-true, not-true}
use Rattle.std.proofs.lemmas.List.FromFn.{length-range_with_len, get_or-range_with_len}
use Rattle.std.proofs.lemmas.List.Sums.{position_or_len_is, AllPass-from_list_all}
use Rattle.std.proofs.lemmas.Nat.{shr_below, pow-add}
use Rattle.std.proofs.lemmas.Int.{ints}
use Rattle.std.proofs.Math.Nat.{mul-le-mul_right}
use Rattle.std.proofs.Math.IntN.{suc_ℤ-*ℤ, +ℤ_comm}
use Rattle.tree_key.specs.Keys.{Key, child, ancestor, width, first_cell, InBox, key_over}
use Rattle.tree_model.specs.Functions.{value_at}
use Rattle.tree_model.specs.Shapes.{is_key_of, is_leaf}
use Rattle.tree_model.specs.Trees.{total, box_sum}
use Rattle.tree_model.specs.Project.{Projection, is_split, projected_shape, projected, leaf_over}
use Rattle.tree_model.proofs.RangeLemmas.{slice_map_range}
use Rattle.tree_model.proofs.AncestorLemmas.{ancestor_self, key_over_ancestor}
use Rattle.tree_model.proofs.RowLemmas.{shape_child}

-- what a leaf of the shape keeps
pub record IsProjectedLeaf (depth : ℕ) (p : Projection) (k : Key) : Type 0 where
  pub level : k.level ≤ depth
  pub at : k.at < 2 ^ k.level
  pub above : (level : ℕ) → level < k.level → is_split depth p (ancestor k level) ≡ true
  pub whole : is_split depth p k ≡ false

list_all_range_at : (q : ℕ → Bool) (n i : ℕ) → list_all q (range_with_len 0 n) ≡ true → i < n → q i ≡ true
list_all_range_at q n i all below =
    let at : get_or (range_with_len 0 n) i 0 ≡ i = (get_or-range_with_len 0 n i 0 below ∙ zero-add i) in
    let within : i < length (range_with_len 0 n) = (rw (length-range_with_len 0 n) below) in
    subst (λ j. q j ≡ true) at (AllPass-from_list_all q (range_with_len 0 n) all i 0 within)

split_from : (shape split : Bool) → shape ≡ true → (shape && split) ≡ false → split ≡ false
split_from true split is none = none
split_from false split is none = cc

pub leaf_parts : (depth : ℕ) (p : Projection) (k : Key) → is_leaf (projected_shape depth p) k ≡ true → IsProjectedLeaf depth p k
leaf_parts depth p k leaf =
    let shape = projected_shape depth p in
    let both = and_parts (shape k) (not (shape (child k false))) leaf in
    let tests = and_parts (is_key_of depth k) (list_all (λ level. is_split depth p (ancestor k level)) (range_with_len 0 k.level)) both.0 in
    let key = and_parts (leb k.level depth) (ltb k.at (2 ^ k.level)) tests.0 in
    let fits = ltb-true k.at (2 ^ k.level) key.1 in
    let no_child : (shape k && is_split depth p k) ≡ false = (sym (shape_child depth p k false fits) ∙ not-true (shape (child k false)) both.1) in
    record {
      level = leb-true k.level depth key.0;
      at = fits;
      above = λ level below. list_all_range_at (λ level. is_split depth p (ancestor k level)) k.level level tests.1 below;
      whole = split_from (shape k) (is_split depth p k) both.0 no_child;
    }

no_leaf : (shape split child_shape : Bool) → split ≡ true → child_shape ≡ (shape && split) → (shape && not child_shape) ≡ false
no_leaf true split child_shape is same = rw (same, is) refl
no_leaf false split child_shape is same = refl

-- the keys over a leaf aren't leaves
over_leaf : (depth : ℕ) (p : Projection) (k : Key) (level : ℕ) → IsProjectedLeaf depth p k → level < k.level → is_leaf (projected_shape depth p) (ancestor k level) ≡ false
over_leaf depth p k level leaf below =
    let parts : k.level ≡ level + (k.level - level) = omega arith in
    let fits : k.at / 2 ^ (k.level - level) < 2 ^ level = shr_below k.at level (k.level - level) (subst (λ n. k.at < 2 ^ n) parts leaf.at) in
    no_leaf _ _ _ (leaf.above level below) (shape_child depth p (ancestor k level) false fits)

-- the leaf over a cell of a leaf's box is that leaf
pub leaf_over_box : (depth : ℕ) (p : Projection) (k : Key) (cell : ℕ) → is_leaf (projected_shape depth p) k ≡ true → InBox depth k cell → leaf_over depth (projected_shape depth p) cell ≡ k
leaf_over_box depth p k cell leaf inside =
    let shape = projected_shape depth p in
    let parts = leaf_parts depth p k leaf in
    let levels = range_with_len 0 (depth + 1) in
    let is_here : ℕ → Bool = λ level. is_leaf shape (key_over depth level cell) in
    let over : (level : ℕ) → level ≤ k.level → key_over depth level cell ≡ ancestor k level = λ level le. key_over_ancestor depth k cell level parts.level le inside in
    let at : (level : ℕ) → level ≤ k.level → get_or levels level 0 ≡ level = λ level le. (let deep : level ≤ depth = omega (arith, parts.level) in get_or-range_with_len 0 (depth + 1) level 0 (omega arith) ∙ zero-add level) in
    let short : length levels ≡ depth + 1 = length-range_with_len 0 (depth + 1) in
    let here : (level : ℕ) → level ≤ k.level → is_here (get_or levels level 0) ≡ is_leaf shape (ancestor k level) = λ level le. (ap is_here (at level le) ∙ ap (is_leaf shape) (over level le)) in
    let before : (level : ℕ) → level < k.level → is_here (get_or levels level 0) ≡ false = λ level below. (here level (omega arith) ∙ over_leaf depth p k level parts below) in
    let this : is_here (get_or levels k.level 0) ≡ true = (here k.level (omega arith) ∙ ap (is_leaf shape) (ancestor_self k) ∙ leaf) in
    let found : position_or_len is_here levels ≡ k.level = position_or_len_is is_here levels k.level 0 (omega (arith, parts.level)) before (λ within. this) in
    ap (λ level. key_over depth level cell) found ∙ over k.level (omega arith) ∙ ancestor_self k

-- the box of a key of the depth lies within the cells
pub box_within : (depth : ℕ) (k : Key) → k.level ≤ depth → k.at < 2 ^ k.level → first_cell depth k + width depth k ≤ 2 ^ depth
box_within depth k deep fits =
    let w = 2 ^ (depth - k.level) in
    let parts : depth ≡ k.level + (depth - k.level) = omega arith in
    let all : 2 ^ depth ≡ 2 ^ k.level * w = (ap (λ n. 2 ^ n) parts ∙ pow-add 2 k.level (depth - k.level)) in
    let room : (k.at + 1) * w ≤ 2 ^ k.level * w = mul-le-mul_right w (omega arith) in
    omega (arith, all, room)

none_of : (v : ℤ) → pos 0 ≡ pos 0 *ℤ v
none_of (pos n) = omega (arith, ints)
none_of (negsuc n) = omega (arith, ints)

-- the total of a constant stretch
total_constant : (g : ℕ → ℤ) (v : ℤ) (from count : ℕ) → ((i : ℕ) → from ≤ i → i < from + count → g i ≡ v) → total (map g (range_with_len from count)) ≡ pos count *ℤ v
total_constant g v from zero each = none_of v
total_constant g v from (suc count) each =
    let rest = total_constant g v (from + 1) count (λ i low high. each i (omega arith) (omega arith)) in
    rw (each from (omega arith) (omega arith), rest) (+ℤ_comm v (pos count *ℤ v) ∙ sym (suc_ℤ-*ℤ (pos count) v))

pub leaf_values : (depth : ℕ) (p : Projection) (k : Key) → is_leaf (projected_shape depth p) k ≡ true → (cell : ℕ) → InBox depth k cell → value_at p.function (first_cell depth (leaf_over depth (projected_shape depth p) cell)) ≡ value_at p.function (first_cell depth k)
leaf_values depth p k leaf cell inside = ap (λ over. value_at p.function (first_cell depth over)) (leaf_over_box depth p k cell leaf inside)

-- the sum over a leaf's box
pub box_sum_leaf : (depth : ℕ) (p : Projection) (k : Key) → is_leaf (projected_shape depth p) k ≡ true → box_sum (projected depth p) k ≡ pos (width depth k) *ℤ value_at p.function (first_cell depth k)
box_sum_leaf depth p k leaf =
    let parts = leaf_parts depth p k leaf in
    let g : ℕ → ℤ = λ cell. value_at p.function (first_cell depth (leaf_over depth (projected_shape depth p) cell)) in
    ap total (slice_map_range g (first_cell depth k) (width depth k) (2 ^ depth) (box_within depth k parts.level parts.at))
    ∙ total_constant g (value_at p.function (first_cell depth k)) (first_cell depth k) (width depth k) (λ cell low high. leaf_values depth p k leaf cell (record { from = low; below = high }))
