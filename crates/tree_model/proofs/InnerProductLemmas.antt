-- Lemmas that crates above use: the product law: inner products from sums and differences.
use Rattle.std.proofs.Common.{◌≡◌, ℕ, zero, suc, ◌+◌, ◌-◌, ◌*◌, ◌^◌, ◌<◌, ◌≤◌, List, [], ◌∷◌, length, take, drop, get_or, Bool, true, false, not, ◌&&◌, ℤ, pos, ◌+ℤ◌, ◌-ℤ◌, ◌*ℤ◌, refl, sym, ◌∙◌, ap, subst, arith, add-one, ◌⊎◌, inl, inr}
use Rattle.std.specs.List.{zip}
use Rattle.std.proofs.lemmas.Bool.{and_parts, cases_Bool}
use Rattle.std.proofs.Math.IntN.{*ℤ_comm, *ℤ-zero, +ℤ_idr, +ℤ_assoc}
use Rattle.std.proofs.lemmas.Int.{ints}
use Rattle.std.proofs.lemmas.List.{take_all, length-map}
use Rattle.std.proofs.lemmas.Slice.Zip.{length-zip}
use Rattle.std.proofs.Math.Nat.{zero-mul}
use Rattle.tree_key.specs.Keys.{Key, root, child, width, first_cell}
use Rattle.tree_key.proofs.PowerLemmas.{twice}
use Rattle.tree_model.specs.Shapes.{is_leaf, is_interior}
use Rattle.tree_model.specs.Trees.{Tree, IsTree, total, box_sum, difference}
use Rattle.tree_model.specs.Products.{products, is_common, inner_part_down}
use Rattle.tree_model.specs.Laws.{ProductLaw, InnerPartsFollow}
use Rattle.tree_model.proofs.IntegerLemmas.{times_sum, times_times, sums_and_differences}
use Rattle.tree_model.proofs.BoxSumLemmas.{values_on, total_values_on, box_sum_children, Are, leaf_of_tree, total_are, key_of_tree, length_values_on}

products_nil : (xs : List ℤ) → products xs [] ≡ []
products_nil [] = refl
products_nil (x ∷ xs) = refl

products_turned : (xs ys : List ℤ) → products xs ys ≡ products ys xs
products_turned [] ys = sym (products_nil ys)
products_turned (x ∷ xs) [] = refl
products_turned (x ∷ xs) (y ∷ ys) = rw (*ℤ_comm x y, products_turned xs ys) refl

take_products : (n : ℕ) (xs ys : List ℤ) → take n (products xs ys) ≡ products (take n xs) (take n ys)
take_products zero xs ys = refl
take_products (suc n) [] ys = refl
take_products (suc n) (x ∷ xs) [] = refl
take_products (suc n) (x ∷ xs) (y ∷ ys) = ap (λ rest. (x *ℤ y) ∷ rest) (take_products n xs ys)

drop_products : (n : ℕ) (xs ys : List ℤ) → drop n (products xs ys) ≡ products (drop n xs) (drop n ys)
drop_products zero xs ys = refl
drop_products (suc n) [] ys = refl
drop_products (suc n) (x ∷ xs) [] = sym (products_nil (drop n xs))
drop_products (suc n) (x ∷ xs) (y ∷ ys) = drop_products n xs ys

-- the products on a box are those of the values on it
values_on_products : (depth : ℕ) (k : Key) (xs ys : List ℤ) → values_on depth k (products xs ys) ≡ products (values_on depth k xs) (values_on depth k ys)
values_on_products depth k xs ys =
    ap (take (width depth k)) (drop_products (first_cell depth k) xs ys)
    ∙ take_products (width depth k) (drop (first_cell depth k) xs) (drop (first_cell depth k) ys)

-- the products with one value
total_products_are : (value : ℤ) (xs ys : List ℤ) → Are value xs → length xs ≡ length ys → total (products xs ys) ≡ value *ℤ total ys
total_products_are value [] [] are same = sym (*ℤ-zero value)
total_products_are value [] (y ∷ ys) are same = absurd (omega arith)
total_products_are value (x ∷ xs) [] are same = absurd (omega arith)
total_products_are value (x ∷ xs) (y ∷ ys) are same =
    rw (are.0, total_products_are value xs ys are.1 (omega arith)) (sym (times_sum value y (total ys)))

-- the sum of the products of two trees over the box of a key
abbrev pub products_on : Tree → Tree → Key → ℤ
products_on f g k = total (values_on f.depth k (products f.cells g.cells))

-- a list of one value: the product of the sums is the sum of the products times the length
one_value : (n : ℕ) (value : ℤ) (xs ys : List ℤ) → Are value xs → length xs ≡ n → length ys ≡ n → total xs *ℤ total ys ≡ pos n *ℤ total (products xs ys)
one_value n value xs ys are long same =
    ap (λ z. z *ℤ total ys) (total_are value xs are ∙ ap (λ m. pos m *ℤ value) long)
    ∙ times_times (pos n) value (total ys)
    ∙ ap (λ z. pos n *ℤ z) (sym (total_products_are value xs ys are (long ∙ sym same)))

-- where one of the trees has a leaf, the sums alone make the product
leaf_product : (f g : Tree) (k : Key) → IsTree f → IsTree g → f.depth ≡ g.depth → (is_leaf f.shape k ≡ true) ⊎ (is_leaf g.shape k ≡ true) → k.level ≤ f.depth → k.at < 2 ^ k.level → box_sum f k *ℤ box_sum g k ≡ pos (width f.depth k) *ℤ products_on f g k
leaf_product f g k tree_f tree_g same leaf level at =
    let xs = values_on f.depth k f.cells in
    let ys = values_on f.depth k g.cells in
    let deep : k.level ≤ g.depth = omega arith in
    let long_f = length_values_on f k tree_f level at in
    let long_g = (subst (λ d. length (values_on d k g.cells) ≡ width d k) (sym same) (length_values_on g k tree_g deep at)) in
    let sum_g : box_sum g k ≡ total ys = ap (λ d. total (values_on d k g.cells)) (sym same) in
    let parts = ap total (values_on_products f.depth k f.cells g.cells) in
    ap (λ z. box_sum f k *ℤ z) sum_g
    ∙ elim leaf as (λ _. total xs *ℤ total ys ≡ pos (width f.depth k) *ℤ total (products xs ys)) [
      | inl is ↦ one_value (width f.depth k) _ xs ys (leaf_of_tree f k tree_f is).values long_f long_g
      | inr is ↦
          let are = (subst (λ d. Are (get_or g.cells (first_cell g.depth k) (pos 0)) (values_on d k g.cells)) (sym same) (leaf_of_tree g k tree_g is).values) in
          *ℤ_comm (total xs) (total ys)
          ∙ one_value (width f.depth k) _ ys xs are long_g long_f
          ∙ ap (λ zs. pos (width f.depth k) *ℤ total zs) (products_turned ys xs)
    ]
    ∙ ap (λ z. pos (width f.depth k) *ℤ z) (sym parts)

pub inner_part_down_other : (levels : ℕ) (f g : Tree) (k : Key) → is_common f g k ≡ false → inner_part_down levels f g k ≡ pos 0
inner_part_down_other zero f g k other = refl
inner_part_down_other (suc levels) f g k other = rw other refl

pub inner_part_down_common : (levels : ℕ) (f g : Tree) (k : Key) → is_common f g k ≡ true → inner_part_down (suc levels) f g k ≡ difference f k *ℤ difference g k +ℤ pos 2 *ℤ (inner_part_down levels f g (child k false) +ℤ inner_part_down levels f g (child k true))
inner_part_down_common levels f g k common = rw common refl

-- a step up: the products of the parts and what the differences below add make those of the whole
product_step : (a b c d left right p q h : ℤ) → a *ℤ c +ℤ left ≡ h *ℤ p → b *ℤ d +ℤ right ≡ h *ℤ q → (a +ℤ b) *ℤ (c +ℤ d) +ℤ ((a -ℤ b) *ℤ (c -ℤ d) +ℤ pos 2 *ℤ (left +ℤ right)) ≡ (pos 2 *ℤ h) *ℤ (p +ℤ q)
product_step a b c d left right p q h first second =
    sym (+ℤ_assoc ((a +ℤ b) *ℤ (c +ℤ d)) ((a -ℤ b) *ℤ (c -ℤ d)) (pos 2 *ℤ (left +ℤ right)))
    ∙ ap (λ z. z +ℤ pos 2 *ℤ (left +ℤ right)) (sums_and_differences a b c d)
    ∙ sym (times_sum (pos 2) (a *ℤ c +ℤ b *ℤ d) (left +ℤ right))
    ∙ ap (λ z. pos 2 *ℤ z) (regrouped (a *ℤ c) (b *ℤ d) left right ∙ ap (λ z. z +ℤ (b *ℤ d +ℤ right)) first ∙ ap (λ z. h *ℤ p +ℤ z) second ∙ sym (times_sum h p q))
    ∙ sym (times_times (pos 2) h (p +ℤ q))
  where
    regrouped : (w x y z : ℤ) → (w +ℤ x) +ℤ (y +ℤ z) ≡ (w +ℤ y) +ℤ (x +ℤ z)
    regrouped w x y z = omega (arith, ints)

-- a key of both trees without children in one of them is a leaf there
leaf_of_one : (in_f below_f in_g below_g : Bool) → in_f ≡ true → in_g ≡ true → ((in_f && below_f) && (in_g && below_g)) ≡ false → ((in_f && not below_f) ≡ true) ⊎ ((in_g && not below_g) ≡ true)
leaf_of_one true false in_g below_g f g none = inl refl
leaf_of_one true true true false f g none = inr refl
leaf_of_one true true true true f g none = absurd (cc)
leaf_of_one true true false below_g f g none = absurd (cc)
leaf_of_one false below_f in_g below_g f g none = absurd (cc)

-- on the deepest level no key has children
no_children : (t : Tree) (k : Key) → IsTree t → k.level ≡ t.depth → is_interior t.shape k ≡ true → ⊥
no_children t k tree deepest interior =
    let below = key_of_tree t (child k false) tree (and_parts (t.shape k) (t.shape (child k false)) interior).1 in
    omega arith

-- the law on the box of a key of both trees where one has a leaf
product_on_leaf : (levels : ℕ) (f g : Tree) (k : Key) → IsTree f → IsTree g → f.depth ≡ g.depth → k.level + levels ≡ f.depth → f.shape k ≡ true → g.shape k ≡ true → is_common f g k ≡ false → box_sum f k *ℤ box_sum g k +ℤ inner_part_down levels f g k ≡ pos (2 ^ levels) *ℤ products_on f g k
product_on_leaf levels f g k tree_f tree_g same left in_f in_g other =
    let key = key_of_tree f k tree_f in_f in
    let leaf = leaf_of_one (f.shape k) (f.shape (child k false)) (g.shape k) (g.shape (child k false)) in_f in_g other in
    let down : f.depth - k.level ≡ levels = omega arith in
    ap (λ z. box_sum f k *ℤ box_sum g k +ℤ z) (inner_part_down_other levels f g k other)
    ∙ +ℤ_idr (box_sum f k *ℤ box_sum g k)
    ∙ leaf_product f g k tree_f tree_g same leaf key.0 key.1
    ∙ ap (λ n. pos (2 ^ n) *ℤ products_on f g k) down

-- and on the box of any key of both trees
pub product_on : (levels : ℕ) (f g : Tree) (k : Key) → IsTree f → IsTree g → f.depth ≡ g.depth → k.level + levels ≡ f.depth → f.shape k ≡ true → g.shape k ≡ true → box_sum f k *ℤ box_sum g k +ℤ inner_part_down levels f g k ≡ pos (2 ^ levels) *ℤ products_on f g k
product_on zero f g k tree_f tree_g same left in_f in_g =
    elim (cases_Bool (is_common f g k)) [
      | inl common ↦
          absurd (no_children f k tree_f (omega arith) (and_parts (is_interior f.shape k) (is_interior g.shape k) common).0)
      | inr other ↦ product_on_leaf zero f g k tree_f tree_g same left in_f in_g other
    ]
product_on (suc levels) f g k tree_f tree_g same left in_f in_g =
    elim (cases_Bool (is_common f g k)) [
      | inl common ↦
          let interior = and_parts (is_interior f.shape k) (is_interior g.shape k) common in
          let left_f = (and_parts (f.shape k) (f.shape (child k false)) interior.0).1 in
          let left_g = (and_parts (g.shape k) (g.shape (child k false)) interior.1).1 in
          let right_f = (tree_f.shape.children k ∙ left_f) in
          let right_g = (tree_g.shape.children k ∙ left_g) in
          let first = product_on levels f g (child k false) tree_f tree_g same (omega arith) left_f left_g in
          let second = product_on levels f g (child k true) tree_f tree_g same (omega arith) right_f right_g in
          let products = (total_values_on f.depth k (products f.cells g.cells) (omega arith) ∙ ap (λ z. products_on f g (child k false) +ℤ z) (+ℤ_idr (products_on f g (child k true)))) in
          let doubled : 2 ^ suc levels ≡ 2 * 2 ^ levels = (ap (λ n. 2 ^ n) (sym (add-one levels)) ∙ twice levels) in
          rw (box_sum_children f k (omega arith), box_sum_children g k (omega arith), inner_part_down_common levels f g k common, products, doubled)
          (product_step (box_sum f (child k false)) (box_sum f (child k true)) (box_sum g (child k false)) (box_sum g (child k true)) (inner_part_down levels f g (child k false)) (inner_part_down levels f g (child k true)) (products_on f g (child k false)) (products_on f g (child k true)) (pos (2 ^ levels)) first second)
      | inr other ↦ product_on_leaf (suc levels) f g k tree_f tree_g same left in_f in_g other
    ]

-- the root's box is all cells
values_on_root : (depth : ℕ) (cells : List ℤ) → length cells ≤ 2 ^ depth → values_on depth root cells ≡ cells
values_on_root depth cells fits =
    let start : 0 * 2 ^ (depth - 0) ≡ 0 = zero-mul (2 ^ (depth - 0)) in
    let all : depth - 0 ≡ depth = omega arith in
    ap (λ n. take (2 ^ (depth - 0)) (drop n cells)) start
    ∙ ap (λ n. take (2 ^ n) cells) all
    ∙ take_all (2 ^ depth) cells fits

length_products : (xs ys : List ℤ) → length (products xs ys) ≤ length xs
length_products xs ys =
    omega (arith, length-map (zip xs ys) (λ (p : ℤ × ℤ). p.0 *ℤ p.1), length-zip xs ys)

pub product_law : ProductLaw
product_law f g tree_f tree_g same =
    let all : f.depth - 0 ≡ f.depth = omega arith in
    let cells = values_on_root f.depth (products f.cells g.cells) (omega (arith, length_products f.cells g.cells, tree_f.cells)) in
    ap (λ n. box_sum f root *ℤ box_sum g root +ℤ inner_part_down n f g root) all
    ∙ product_on f.depth f g root tree_f tree_g same (omega arith) tree_f.shape.root tree_g.shape.root
    ∙ ap (λ zs. pos (2 ^ f.depth) *ℤ total zs) cells

pub inner_parts_follow : (f g : Tree) → InnerPartsFollow f g
inner_parts_follow f g = record {
  common = λ k above is. (
      let levels : f.depth - k.level ≡ suc (f.depth - (k.level + 1)) = omega arith in
      ap (λ n. inner_part_down n f g k) levels ∙ inner_part_down_common (f.depth - (k.level + 1)) f g k is);
  other = λ k is. inner_part_down_other (f.depth - k.level) f g k is;
}
