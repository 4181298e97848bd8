-- Products on leaves, from the values there.
use Rattle.std.proofs.Common.{◌≡◌, ℕ, ◌-◌, ◌*◌, ◌∙◌, ap, ℤ, pos, ◌*ℤ◌}
use Rattle.std.specs.Int.RustNames.{unsigned_abs, int_div}
use Rattle.std.proofs.lemmas.Int.{unsigned_abs-mul}
use Rattle.std.proofs.lemmas.Nat.{pow_pos}
use Rattle.std.proofs.Math.Nat.{mul-lt-mul_of_pos_left}
use Rattle.tree_key.specs.Keys.{Key, width}
use Rattle.tree_model.specs.Operations.{product}
use Rattle.tree_model.specs.Trees.{box_sum}
use Rattle.tree_model.specs.StoredTrees.{value_of, ProductsOfValues, ProductsOverflow}
use Rattle.tree_model.proofs.CombinedTreeLemmas.{product_tree}
use Rattle.tree_model.proofs.IntegerLemmas.{quotient_of_a_multiple}
use Rattle.tree_model.proofs.LeafSumLemmas.{product_on_one_leaf, leaf_shows}

-- the value on a box, where the sum over it is the width times that value
value_from_sum : (depth : ℕ) (k : Key) (sum value : ℤ) → sum ≡ pos (width depth k) *ℤ value → value_of sum (width depth k) ≡ value
value_from_sum depth k sum value is =
    ap (λ z. int_div z (pos (width depth k))) is ∙ quotient_of_a_multiple (width depth k) value (pow_pos (depth - k.level))

pub sums_of_values : ProductsOfValues
sums_of_values f g k left right same leaf =
    let on_leaf = product_on_one_leaf f g k left right same leaf in
    let one = value_from_sum f.depth k (box_sum f k) on_leaf.left on_leaf.left_sum in
    let two = value_from_sum f.depth k (box_sum g k) on_leaf.right on_leaf.right_sum in
    rw (one, two) on_leaf.sum

pub much_on_a_leaf : ProductsOverflow
much_on_a_leaf f g k left right same leaf over =
    let w = width f.depth k in
    let value : ℤ = value_of (box_sum f k) w *ℤ value_of (box_sum g k) w in
    let size : unsigned_abs (box_sum (product f g) k) ≡ w * unsigned_abs value = ap unsigned_abs (sums_of_values f g k left right same leaf) ∙ unsigned_abs-mul (pos w) value in
    leaf_shows (product f g) (product_tree f g left right same) (k, record { leaf = leaf; over = rw size (mul-lt-mul_of_pos_left over (pow_pos (f.depth - k.level))) })
