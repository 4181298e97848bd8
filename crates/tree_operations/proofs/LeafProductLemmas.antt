-- The sum over a leaf of a product of two trees.
use Rattle.std.proofs.Common.{◌≡◌, ℕ, ◌-◌, ◌*◌, ◌%◌, ◌^◌, ◌<◌, ◌≤◌, true, false, Ok, Err, Result, IfOk, IsErr, ◌↔◌, inl, inr, refl, sym, ◌∙◌, ap, arith, ℤ, pos, ◌*ℤ◌}
use Rattle.std.specs.Int.RustNames.{unsigned_abs}
use Rattle.std.proofs.lemmas.Bool.{or_parts, cases_lt}
use Rattle.std.proofs.lemmas.Int.{unsigned_abs-mul}
use Rattle.std.proofs.Math.Nat.{pow-le-pow_right, mul-le-mul_left}
use Rattle.tree_key.specs.Keys.{Key, child, width}
use Rattle.haar_node.specs.Combinations.{IsLeafSum, leaf_value}
use Rattle.tree_model.specs.Functions.{max_value}
use Rattle.tree_model.specs.Operations.{union, product, overflows}
use Rattle.tree_model.specs.Shapes.{is_key_of}
use Rattle.tree_model.specs.Trees.{Tree, box_sum}
use Rattle.tree_model.proofs.CombinedTreeLemmas.{leaf_there, product_tree}
use Rattle.tree_model.proofs.StoredTreeLemmas.{whole_boxes_of_one_value, products_of_values, products_overflow}
use Rattle.tree_operations.specs.Numbers.{IsSound}
use Rattle.tree_operations.specs.Multiplied.{IsLeafToMultiply}

-- the number of cells, as the code has it
pub cells_there : (depth level : ℕ) (k : Key) → level ≡ k.level → depth ≤ 16 → 1 * 2 ^ (depth - level) % 4294967296 ≡ width depth k
cells_there depth level k same shallow =
    let few : 2 ^ (depth - k.level) ≤ 2 ^ 16 = pow-le-pow_right {n = 2} (omega arith) {i = depth - k.level} {j = 16} (omega arith) in
    rw same (omega arith)

-- a leaf of the product has a box that neither tree cuts
pub record IsWholeInBoth (f g : Tree) (key : Key) : Type 0 where
  pub same : f.depth ≡ g.depth
  pub key_left : is_key_of f.depth key ≡ true
  pub key_right : is_key_of g.depth key ≡ true
  pub uncut_left : f.shape (child key false) ≡ false
  pub uncut_right : g.shape (child key false) ≡ false

whole_in_both : (f g : Tree) (depth : ℕ) (key : Key) (left right : ℤ) → IsLeafToMultiply f g depth key left right → IsWholeInBoth f g key
whole_in_both f g depth key left right is =
    let same : f.depth ≡ g.depth = is.depth_left ∙ sym is.depth_right in
    let tree = product_tree f g is.sound_left.tree is.sound_right.tree same in
    let parts = leaf_there (union f.shape g.shape) key is.leaf in
    let none = or_parts (f.shape (child key false)) (g.shape (child key false)) parts.whole in
    let inside = tree.shape.keys key parts.inside in
    record { same = same; key_left = inside; key_right = rw (← same) inside; uncut_left = none.0; uncut_right = none.1 }

-- the sum over such a box
sum_of_whole : (t : Tree) (depth : ℕ) (key : Key) (sum : ℤ) → IsSound t → t.depth ≡ depth → is_key_of t.depth key ≡ true → t.shape (child key false) ≡ false → sum ≡ box_sum t key → IsLeafSum sum (width depth key)
sum_of_whole t depth key sum sound same inside uncut is =
    let whole = whole_boxes_of_one_value t key sound.tree sound.values (record { key = inside; uncut = uncut }) in
    rw (is, ← same) (record { exact = whole.exact; within = whole.within })

pub left_leaf_sum : (f g : Tree) (depth : ℕ) (key : Key) (left right one : ℤ) (cells : ℕ) → IsLeafToMultiply f g depth key left right → one ≡ left → cells ≡ width depth key → IsLeafSum one cells
left_leaf_sum f g depth key left right one cells is same count =
    let both = whole_in_both f g depth key left right is in
    rw (same, count) (sum_of_whole f depth key left is.sound_left is.depth_left both.key_left both.uncut_left is.sum_left)

pub right_leaf_sum : (f g : Tree) (depth : ℕ) (key : Key) (left right other : ℤ) (cells : ℕ) → IsLeafToMultiply f g depth key left right → other ≡ right → cells ≡ width depth key → IsLeafSum other cells
right_leaf_sum f g depth key left right other cells is same count =
    let both = whole_in_both f g depth key left right is in
    rw (same, count) (sum_of_whole g depth key right is.sound_right is.depth_right both.key_right both.uncut_right is.sum_right)

-- the product of the values on the box
abbrev pub value_there : ℤ → ℤ → ℕ → ℤ
value_there one other cells = leaf_value one cells *ℤ leaf_value other cells

same_value : (f g : Tree) (depth : ℕ) (key : Key) (left right one other : ℤ) (cells : ℕ) → IsLeafToMultiply f g depth key left right → one ≡ left → other ≡ right → cells ≡ width depth key → value_there one other cells ≡ value_there (box_sum f key) (box_sum g key) (width f.depth key)
same_value f g depth key left right one other cells is same_one same_other count =
    rw (same_one, same_other, count, is.sum_left, is.sum_right, is.depth_left) refl

pub product_on_one_leaf : (f g : Tree) (depth : ℕ) (key : Key) (left right one other : ℤ) (cells : ℕ) → IsLeafToMultiply f g depth key left right → one ≡ left → other ≡ right → cells ≡ width depth key → pos cells *ℤ value_there one other cells ≡ box_sum (product f g) key
product_on_one_leaf f g depth key left right one other cells is same_one same_other count =
    let both = whole_in_both f g depth key left right is in
    let law = products_of_values f g key is.sound_left.tree is.sound_right.tree both.same is.leaf in
    let narrow : cells ≡ width f.depth key = count ∙ ap (λ d. width d key) (sym is.depth_left) in
    ap (λ v. pos cells *ℤ v) (same_value f g depth key left right one other cells is same_one same_other count)
    ∙ ap (λ n. pos n *ℤ value_there (box_sum f key) (box_sum g key) (width f.depth key)) narrow
    ∙ sym law

pub overflow_on_leaf : (f g : Tree) (depth : ℕ) (key : Key) (left right one other : ℤ) (cells : ℕ) → IsLeafToMultiply f g depth key left right → one ≡ left → other ≡ right → cells ≡ width depth key → max_value < unsigned_abs (value_there one other cells) → overflows (product f g) ≡ true
overflow_on_leaf f g depth key left right one other cells is same_one same_other count over =
    let both = whole_in_both f g depth key left right is in
    products_overflow f g key is.sound_left.tree is.sound_right.tree both.same is.leaf
    (rw (same_value f g depth key left right one other cells is same_one same_other count) at over)

-- a value within the limit makes a sum within its own
pub product_small :
    {E : Type 0} (r : Result ℤ E) (cells limit : ℕ) (value : ℤ) →
    cells ≡ limit →
    IfOk r (λ z. z ≡ pos cells *ℤ value) →
    (IsErr r ↔ (max_value < unsigned_abs value)) →
    IfOk r (λ z. unsigned_abs z ≤ limit * max_value)
product_small (Ok z) cells limit value count is over = elim (cases_lt max_value (unsigned_abs value)) [
  | inl much ↦ absurd (let err = over.1 much in cc)
  | inr small ↦ rw (is, unsigned_abs-mul (pos cells) value, count) (mul-le-mul_left limit small)
]
product_small (Err e) cells limit value count is over = tt
