-- Lemmas that crates above use: how large sums, differences and inner products of values are.
use Rattle.std.proofs.Common.{◌≡◌, ℕ, zero, suc, ◌+◌, ◌-◌, ◌*◌, ◌%◌, ◌^◌, ◌≤◌, List, [], ◌∷◌, length, take, drop, Bool, true, false, if◌then◌else◌, ◌==◌, Some, None, ℤ, pos, negsuc, neg_ℤ, ◌+ℤ◌, ◌-ℤ◌, ◌*ℤ◌, ap, ◌∙◌, arith, inl, inr}
use Rattle.std.specs.List.{All}
use Rattle.std.specs.Int.RustNames.{unsigned_abs, int_rem}
use Rattle.std.proofs.lemmas.Bool.{and_parts, cases_Bool}
use Rattle.std.proofs.lemmas.Int.{ints}
use Rattle.std.proofs.lemmas.List.{length-take}
use Rattle.std.proofs.lemmas.List.Elements.{All-nil, All-cons, All-head, All-tail, All-take, All-drop}
use Rattle.std.proofs.Math.Nat.{pow-le-pow_right, mul-le-mul_right, mul-mod_right}
use Rattle.tree_key.specs.Keys.{Key, child, width, first_cell}
use Rattle.tree_model.specs.Functions.{max_value, max_depth}
use Rattle.tree_model.specs.Shapes.{is_leaf, is_interior}
use Rattle.tree_model.specs.Trees.{Tree, IsTree, HasValues, total, box_sum, difference}
use Rattle.tree_model.specs.Nodes.{Node, compressed_root, compressed_below, NumbersFit, max_number}
use Rattle.tree_model.specs.Nodes.Node.{Leaf, Branch, Inner, Root, Bare}
use Rattle.tree_model.specs.Nodes.Form.{Reconstructed, Compressed}
use Rattle.tree_model.specs.Products.{products, inner_product, is_common, inner_part}
use Rattle.tree_model.specs.Laws.{NodesFit, TreeSumsFit, InnerPartsFit}
use Rattle.tree_model.proofs.IntegerLemmas.{product_within}
use Rattle.tree_model.proofs.BoxSumLemmas.{values_on, key_of_tree, box_sum_children}
use Rattle.tree_model.proofs.InnerProductLemmas.{products_on, product_on, product_law, inner_parts_follow}

-- all numbers of a list are at most this in absolute value
abbrev pub AreWithin : ℕ → List ℤ → Type 0
AreWithin limit zs = All (λ z. unsigned_abs z ≤ limit) zs

pub total_within : (limit : ℕ) (zs : List ℤ) → AreWithin limit zs → unsigned_abs (total zs) ≤ length zs * limit
total_within limit [] within = omega arith
total_within limit (z ∷ zs) within =
    let first = All-head (λ n. unsigned_abs n ≤ limit) z zs within in
    let rest = total_within limit zs (All-tail (λ n. unsigned_abs n ≤ limit) z zs within) in
    omega (arith, ints)

-- the sum over a box is at most its width times the limit
pub box_total_within : (limit depth : ℕ) (k : Key) (cells : List ℤ) → AreWithin limit cells → unsigned_abs (total (values_on depth k cells)) ≤ width depth k * limit
box_total_within limit depth k cells within =
    let behind = drop (first_cell depth k) cells in
    let here = All-take (λ z. unsigned_abs z ≤ limit) (width depth k) behind (All-drop (λ z. unsigned_abs z ≤ limit) (first_cell depth k) cells within) in
    let short : length (take (width depth k) behind) ≤ width depth k = omega (arith, length-take (width depth k) behind) in
    let sum = total_within limit (values_on depth k cells) here in
    let all : length (take (width depth k) behind) * limit ≤ width depth k * limit = mul-le-mul_right limit short in
    omega arith

-- a box has at most 65,536 cells
width_within : (depth : ℕ) (k : Key) → depth ≤ max_depth → width depth k ≤ 2 ^ 16
width_within depth k shallow = pow-le-pow_right {n = 2} (omega arith) {i = depth - k.level} {j = 16} (omega arith)

pub box_sum_within : (t : Tree) (k : Key) → HasValues t → t.depth ≤ max_depth → unsigned_abs (box_sum t k) ≤ 2 ^ 40
box_sum_within t k values shallow =
    let sum = box_total_within max_value t.depth k t.cells values in
    let narrow = mul-le-mul_right (2 ^ 24) (width_within t.depth k shallow) in
    omega arith

pub difference_within : (t : Tree) (k : Key) → HasValues t → t.depth ≤ max_depth → unsigned_abs (difference t k) ≤ max_number
difference_within t k values shallow =
    let left = box_sum_within t (child k false) values shallow in
    let right = box_sum_within t (child k true) values shallow in
    omega (arith, ints)

node_reconstructed : (t : Tree) (k : Key) (leaf : Bool) → unsigned_abs (box_sum t k) ≤ max_number → NumbersFit (if leaf then Leaf (box_sum t k) else Branch)
node_reconstructed t k true small = small
node_reconstructed t k false small = tt

compressed_root_fits : (t : Tree) (k : Key) (leaf : Bool) → unsigned_abs (box_sum t k) ≤ max_number → unsigned_abs (difference t k) ≤ max_number → NumbersFit (Root (box_sum t k) (if leaf then None else Some (difference t k)))
compressed_root_fits t k true small small_difference = (small, tt)
compressed_root_fits t k false small small_difference = (small, small_difference)

compressed_below_fits : (t : Tree) (k : Key) (leaf : Bool) → unsigned_abs (difference t k) ≤ max_number → NumbersFit (if leaf then Bare else Inner (difference t k))
compressed_below_fits t k true small = tt
compressed_below_fits t k false small = small

one_of_two : (a b : Node) (first : Bool) → NumbersFit a → NumbersFit b → NumbersFit (if first then a else b)
one_of_two a b true fits_a fits_b = fits_a
one_of_two a b false fits_a fits_b = fits_b

pub nodes_fit : NodesFit
nodes_fit Reconstructed t k values shallow =
    let sum = box_sum_within t k values shallow in
    node_reconstructed t k (is_leaf t.shape k) (omega arith)
nodes_fit Compressed t k values shallow =
    let sum = box_sum_within t k values shallow in
    let small : unsigned_abs (box_sum t k) ≤ max_number = omega arith in
    let apart = difference_within t k values shallow in
    one_of_two (compressed_root t k) (compressed_below t k) (k.level == 0) (compressed_root_fits t k (is_leaf t.shape k) small apart) (compressed_below_fits t k (is_leaf t.shape k) apart)

products_within : (limit : ℕ) (xs ys : List ℤ) → AreWithin limit xs → AreWithin limit ys → AreWithin (limit * limit) (products xs ys)
products_within limit [] ys within_xs within_ys = All-nil (λ z. unsigned_abs z ≤ limit * limit)
products_within limit (x ∷ xs) [] within_xs within_ys = All-nil (λ z. unsigned_abs z ≤ limit * limit)
products_within limit (x ∷ xs) (y ∷ ys) within_xs within_ys =
    let small : ℤ → Type 0 = λ z. unsigned_abs z ≤ limit in
    All-cons (λ z. unsigned_abs z ≤ limit * limit) (x *ℤ y) (products xs ys)
    (product_within x y limit limit (All-head small x xs within_xs) (All-head small y ys within_ys))
    (products_within limit xs ys (All-tail small x xs within_xs) (All-tail small y ys within_ys))

-- what is left of a sum, where the sum and the other part are small
rest_within : (a b c : ℤ) (m n : ℕ) → a +ℤ b ≡ c → unsigned_abs a ≤ m → unsigned_abs c ≤ n → unsigned_abs b ≤ m + n
rest_within a b c m n sum small_a small_c = omega (arith, ints)

inner_part_within : (f g : Tree) (k : Key) → IsTree f → IsTree g → f.depth ≡ g.depth → f.depth ≤ max_depth → HasValues f → HasValues g → unsigned_abs (inner_part f g k) ≤ 2 ^ 90
inner_part_within f g k tree_f tree_g same shallow values_f values_g =
    elim (cases_Bool (is_common f g k)) [
      | inl common ↦
          let interior = and_parts (is_interior f.shape k) (is_interior g.shape k) common in
          let in_f = (and_parts (f.shape k) (f.shape (child k false)) interior.0).0 in
          let in_g = (and_parts (g.shape k) (g.shape (child k false)) interior.1).0 in
          let deep = (key_of_tree f k tree_f in_f).0 in
          let law = product_on (f.depth - k.level) f g k tree_f tree_g same (omega arith) in_f in_g in
          let sum_f = box_sum_within f k values_f shallow in
          let sum_g = box_sum_within g k values_g (omega arith) in
          let sums = product_within (box_sum f k) (box_sum g k) (2 ^ 40) (2 ^ 40) sum_f sum_g in
          let narrow = width_within f.depth k shallow in
          let cells = box_total_within (max_value * max_value) f.depth k (products f.cells g.cells) (products_within max_value f.cells g.cells values_f values_g) in
          let few = mul-le-mul_right (2 ^ 48) narrow in
          let all : unsigned_abs (products_on f g k) ≤ 2 ^ 64 = omega arith in
          let whole = product_within (pos (width f.depth k)) (products_on f g k) (2 ^ 16) (2 ^ 64) narrow all in
          let part = rest_within (box_sum f k *ℤ box_sum g k) (inner_part f g k) (pos (width f.depth k) *ℤ products_on f g k) (2 ^ 40 * 2 ^ 40) (2 ^ 16 * 2 ^ 64) law sums whole in
          omega arith
      | inr other ↦ rw ((inner_parts_follow f g).other k other) (omega arith)
    ]

-- a multiple has no rest
no_rest_below : (n multiple : ℕ) → multiple % n ≡ 0 → int_rem (neg_ℤ (pos multiple)) (pos n) ≡ pos 0
no_rest_below n zero none = ap pos none
no_rest_below n (suc m) none = ap (λ rest. neg_ℤ (pos rest)) none

pub no_rest : (n : ℕ) (z : ℤ) → int_rem (pos n *ℤ z) (pos n) ≡ pos 0
no_rest n (pos m) = ap pos (mul-mod_right n m)
no_rest n (negsuc m) = no_rest_below n (n * suc m) (mul-mod_right n (suc m))

-- twice the left half
sum_and_difference : (left right : ℤ) → (left +ℤ right) +ℤ (left -ℤ right) ≡ pos 2 *ℤ left
sum_and_difference left right = omega (arith, ints)

pub sums_fit : TreeSumsFit
sums_fit t values shallow = record {
  sums = λ k. box_sum_within t k values shallow;
  differences = λ k. difference_within t k values shallow;
  even = λ k above. (
      let left = box_sum t (child k false) in
      let right = box_sum t (child k true) in
      ap (λ z. int_rem (z +ℤ difference t k) (pos 2)) (box_sum_children t k above)
      ∙ ap (λ z. int_rem z (pos 2)) (sum_and_difference left right)
      ∙ no_rest 2 left);
}

pub inner_parts_fit : InnerPartsFit
inner_parts_fit f g tree_f tree_g same shallow values_f values_g = record {
  part = λ k. inner_part_within f g k tree_f tree_g same shallow values_f values_g;
  exact = rw (product_law f g tree_f tree_g same) (no_rest (2 ^ f.depth) (inner_product f g));
}
