-- Overflow on the box of a key.
use Rattle.std.proofs.Common.{◌≡◌, ℕ, ◌-◌, ◌*◌, ◌<◌, ◌≤◌, ◌^◌, Bool, true, false, List, [], ◌∷◌, length, drop, refl, sym, ap, ◌∙◌, subst, arith, length-take, ℤ, pos, ◌*ℤ◌}
use Rattle.std.specs.Prelude.{◌||◌, nat_le, not, map}
use Rattle.std.specs.Int.RustNames.{unsigned_abs, int_div}
use Rattle.std.specs.List.{AllByRecursion, list_any, zip}
use Rattle.std.proofs.lemmas.Bool.{leb-true, le-leb}
use Rattle.std.proofs.lemmas.Int.{ints, unsigned_abs-mul}
use Rattle.std.proofs.lemmas.List.Elements.{All-weaker, All-from_recursion, All-take, All-drop}
use Rattle.std.proofs.lemmas.List.Folds.{list_any_none, list_any-append}
use Rattle.std.proofs.Math.Nat.{mul-le-mul_left, mul-le-mul_right, le_of_mul-le-mul_left, pow-le-pow_right}
use Rattle.tree_key.specs.Keys.{Key, child, width, first_cell}
use Rattle.tree_model.specs.Functions.{max_value, max_depth, is_value}
use Rattle.tree_model.specs.Nodes.{max_number}
use Rattle.tree_model.specs.Operations.{product}
use Rattle.tree_model.specs.StoredTrees.{IsWhole}
use Rattle.tree_model.specs.Trees.{Tree, IsTree, HasValues, box_sum, box_values, difference}
use Rattle.tree_model.proofs.BelowLeafLemmas.{key_parts}
use Rattle.tree_model.proofs.BoundLemmas.{total_within}
use Rattle.tree_model.proofs.BoxSumLemmas.{Are, total_are, values_on, values_on_halves, length_values_on}
use Rattle.tree_model.proofs.CombinedSumLemmas.{slice_zip}
use Rattle.tree_model.proofs.ConstantBoxLemmas.{one_value, same_tests, whole_boxes_are_constant}
use Rattle.tree_model.proofs.IntegerLemmas.{quotient_of_a_multiple}
use Rattle.haar_node.specs.Combinations.{leaf_value}
use Rattle.haar_visits.specs.Multiplying.{product_value}
use Rattle.haar_meaning.specs.RightValues.{overflows_on}

abbrev too_large : ℤ → Bool
too_large z = not (is_value z)

-- a list of one value

any_are : (p : ℤ → Bool) (value : ℤ) (zs : List ℤ) → Are value zs → 0 < length zs → list_any p zs ≡ p value
any_are p value [] are some = absurd (omega (arith, some))
any_are p value (z ∷ zs) are some = ap (λ (x : ℤ). p x || list_any p zs) are.0 ∙ go (p value) refl (λ more. any_are p value zs are.1 more)
  where
    rest : (ys : List ℤ) → (0 < length ys → list_any p ys ≡ p value) → p value ≡ false → list_any p ys ≡ false
    rest [] ih e = refl
    rest (y ∷ ys) ih e = ih (omega arith) ∙ e

    go : (b : Bool) → p value ≡ b → (0 < length zs → list_any p zs ≡ p value) → (b || list_any p zs) ≡ b
    go true e ih = refl
    go false e ih = rest zs ih e

some_cells : (depth : ℕ) (k : Key) → 0 < width depth k
some_cells depth k = let one = pow-le-pow_right {n = 2} (omega arith) {i = 0} {j = depth - k.level} (omega arith) in omega (arith, one)

-- on a box that a tree doesn't cut

abs_of : (w n : ℕ) (value sum : ℤ) → n ≡ w → sum ≡ pos n *ℤ value → unsigned_abs sum ≡ w * unsigned_abs value
abs_of w n value sum len is = ap unsigned_abs is ∙ unsigned_abs-mul (pos n) value ∙ ap (λ (m : ℕ). m * unsigned_abs value) len

same_limit : (w : ℕ) (value sum : ℤ) → 0 < w → unsigned_abs sum ≡ w * unsigned_abs value → nat_le (unsigned_abs value) max_value ≡ nat_le (unsigned_abs sum) (w * max_value)
same_limit w value sum some abs = same_tests (nat_le (unsigned_abs value) max_value) (nat_le (unsigned_abs sum) (w * max_value))
    (λ e. le-leb _ _ (subst (λ (n : ℕ). n ≤ w * max_value) (sym abs) (mul-le-mul_left w (leb-true (unsigned_abs value) max_value e))))
    (λ e. le-leb _ _ (le_of_mul-le-mul_left (subst (λ (n : ℕ). n ≤ w * max_value) abs (leb-true (unsigned_abs sum) (w * max_value) e)) some))

pub whole_overflow : (t : Tree) (k : Key) → IsTree t → IsWhole t k → overflows_on t k ≡ not (nat_le (unsigned_abs (box_sum t k)) (width t.depth k * max_value))
whole_overflow t k tree whole =
    let one = one_value (box_values t k) (whole_boxes_are_constant t k tree whole) in
    let key = key_parts t.depth k whole.key in
    let len : length (box_values t k) ≡ width t.depth k = length_values_on t k tree key.level key.at in
    let some = some_cells t.depth k in
    let more : 0 < length (box_values t k) = subst (λ (n : ℕ). 0 < n) (sym len) some in
    let abs = abs_of (width t.depth k) (length (box_values t k)) one.value (box_sum t k) len (total_are one.value (box_values t k) one.are) in
    any_are too_large one.value (box_values t k) one.are more ∙ ap not (same_limit (width t.depth k) one.value (box_sum t k) some abs)

-- where no value is too large

or_none : (a b : Bool) → (a || b) ≡ false → (a ≡ false) × (b ≡ false)
or_none true b e = absurd (cc)
or_none false b e = (refl, e)

not_none : (b : Bool) → not b ≡ false → b ≡ true
not_none true e = refl
not_none false e = absurd (cc)

each_low : (zs : List ℤ) → list_any too_large zs ≡ false → AllByRecursion (λ z. unsigned_abs z ≤ max_value) zs
each_low [] none = tt
each_low (z ∷ zs) none =
    let parts = or_none (too_large z) (list_any too_large zs) none in
    (leb-true (unsigned_abs z) max_value (not_none (is_value z) parts.0), each_low zs parts.1)

pub box_low : (t : Tree) (k : Key) → t.depth ≤ max_depth → overflows_on t k ≡ false → unsigned_abs (box_sum t k) ≤ 2 ^ 40
box_low t k shallow none =
    let behind = drop (first_cell t.depth k) t.cells in
    let sum = total_within max_value (box_values t k) (All-from_recursion (λ z. unsigned_abs z ≤ max_value) (box_values t k) (each_low (box_values t k) none)) in
    let short : length (box_values t k) ≤ width t.depth k = omega (arith, length-take (width t.depth k) behind) in
    let narrow : width t.depth k ≤ 2 ^ 16 = pow-le-pow_right {n = 2} (omega arith) {i = t.depth - k.level} {j = 16} (omega arith) in
    let all : length (box_values t k) ≤ 2 ^ 16 = omega (arith, short, narrow) in
    let wide = mul-le-mul_right (2 ^ 24) all in
    omega (arith, sum, wide)

-- a box with an overflow has one in its left or its right half
pub halves_overflow : (t : Tree) (k : Key) → k.level < t.depth → overflows_on t k ≡ (overflows_on t (child k false) || overflows_on t (child k true))
halves_overflow t k above = ap (list_any too_large) (values_on_halves t.depth k t.cells above) ∙ list_any-append too_large (box_values t (child k false)) (box_values t (child k true))

pub difference_low : (t : Tree) (k : Key) → t.depth ≤ max_depth → k.level < t.depth → overflows_on t k ≡ false → unsigned_abs (difference t k) ≤ max_number
difference_low t k shallow above none =
    let parts = or_none (overflows_on t (child k false)) (overflows_on t (child k true)) (sym (halves_overflow t k above) ∙ none) in
    let left = box_low t (child k false) shallow parts.0 in
    let right = box_low t (child k true) shallow parts.1 in
    omega (arith, ints, left, right)

pub sum_low : (t : Tree) (k : Key) → t.depth ≤ max_depth → overflows_on t k ≡ false → unsigned_abs (box_sum t k) ≤ max_number
sum_low t k shallow none = let low = box_low t k shallow none in omega (arith, low)

is_low : (z : ℤ) → unsigned_abs z ≤ max_value → too_large z ≡ false
is_low z small = ap not (le-leb (unsigned_abs z) max_value small)

pub no_overflow_on : (t : Tree) (k : Key) → HasValues t → overflows_on t k ≡ false
no_overflow_on t k values =
    let all = All-weaker (λ z. unsigned_abs z ≤ max_value) (λ z. too_large z ≡ false) is_low t.cells values in
    list_any_none too_large (box_values t k) (All-take (λ z. too_large z ≡ false) (width t.depth k) (drop (first_cell t.depth k) t.cells) (All-drop (λ z. too_large z ≡ false) (first_cell t.depth k) t.cells all))

-- of a product

are_products : (x y : ℤ) (xs ys : List ℤ) → length xs ≡ length ys → Are x xs → Are y ys → Are (x *ℤ y) (map (λ p. p.0 *ℤ p.1) (zip xs ys))
are_products x y [] [] same left right = tt
are_products x y [] (b ∷ ys) same left right = tt
are_products x y (a ∷ xs) [] same left right = tt
are_products x y (a ∷ xs) (b ∷ ys) same left right = ((λ i. left.0 i *ℤ right.0 i), are_products x y xs ys (omega (arith, same)) left.1 right.1)

value_is : (w n : ℕ) (value sum : ℤ) → 0 < w → n ≡ w → sum ≡ pos n *ℤ value → leaf_value sum w ≡ value
value_is w n value sum some len is = ap (λ (z : ℤ). int_div z (pos w)) (is ∙ ap (λ (m : ℕ). pos m *ℤ value) len) ∙ quotient_of_a_multiple w value some

pub record ProductOn (f g : Tree) (k : Key) : Type 0 where
  pub sum : box_sum (product f g) k ≡ pos (width f.depth k) *ℤ product_value (box_sum f k) (box_sum g k) (width f.depth k)
  pub over : overflows_on (product f g) k ≡ not (nat_le (unsigned_abs (product_value (box_sum f k) (box_sum g k) (width f.depth k))) max_value)

pub product_on : (f g : Tree) (k : Key) → IsTree f → IsTree g → IsTree (product f g) → g.depth ≡ f.depth → IsWhole f k → IsWhole g k → IsWhole (product f g) k → ProductOn f g k
product_on f g k tree_f tree_g tree same whole_f whole_g whole =
    let w = width f.depth k in
    let key = key_parts f.depth k whole_f.key in
    let some = some_cells f.depth k in
    let one_f = one_value (box_values f k) (whole_boxes_are_constant f k tree_f whole_f) in
    let one_g = one_value (box_values g k) (whole_boxes_are_constant g k tree_g whole_g) in
    let len_f : length (box_values f k) ≡ w = length_values_on f k tree_f key.level key.at in
    let key_g = key_parts g.depth k whole_g.key in
    let len_g : length (box_values g k) ≡ w = length_values_on g k tree_g key_g.level key_g.at ∙ ap (λ (d : ℕ). width d k) same in
    let value_f = value_is w (length (box_values f k)) one_f.value (box_sum f k) some len_f (total_are one_f.value (box_values f k) one_f.are) in
    let value_g = value_is w (length (box_values g k)) one_g.value (box_sum g k) some len_g (total_are one_g.value (box_values g k) one_g.are) in
    let cells : length f.cells ≡ length g.cells = tree_f.cells ∙ ap (λ (d : ℕ). 2 ^ d) (sym same) ∙ sym tree_g.cells in
    let ys : values_on f.depth k g.cells ≡ box_values g k = ap (λ (d : ℕ). values_on d k g.cells) (sym same) in
    let zipped : box_values (product f g) k ≡ map (λ p. p.0 *ℤ p.1) (zip (box_values f k) (box_values g k)) =
    slice_zip (λ p. p.0 *ℤ p.1) (first_cell f.depth k) w f.cells g.cells cells ∙ ap (λ (zs : List ℤ). map (λ p. p.0 *ℤ p.1) (zip (box_values f k) zs)) ys in
    let are : Are (one_f.value *ℤ one_g.value) (box_values (product f g) k) =
    subst (Are (one_f.value *ℤ one_g.value)) (sym zipped) (are_products one_f.value one_g.value (box_values f k) (box_values g k) (len_f ∙ sym len_g) one_f.are one_g.are) in
    let len : length (box_values (product f g) k) ≡ w = length_values_on (product f g) k tree key.level key.at in
    let values : one_f.value *ℤ one_g.value ≡ product_value (box_sum f k) (box_sum g k) w = sym (λ i. value_f i *ℤ value_g i) in
    let sum : box_sum (product f g) k ≡ pos w *ℤ (one_f.value *ℤ one_g.value) = total_are (one_f.value *ℤ one_g.value) (box_values (product f g) k) are ∙ ap (λ (m : ℕ). pos m *ℤ (one_f.value *ℤ one_g.value)) len in
    let more : 0 < length (box_values (product f g) k) = subst (λ (n : ℕ). 0 < n) (sym len) some in
    record {
      sum = sum ∙ ap (λ (z : ℤ). pos w *ℤ z) values;
      over = any_are too_large (one_f.value *ℤ one_g.value) (box_values (product f g) k) are more ∙ ap (λ (z : ℤ). not (nat_le (unsigned_abs z) max_value)) values;
    }
