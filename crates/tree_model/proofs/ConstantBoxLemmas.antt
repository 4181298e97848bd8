-- Lemmas that crates above use: boxes on which all values are the same.
use Rattle.std.proofs.Common.{◌≡◌, ℕ, ◌+◌, ◌-◌, ◌<◌, List, [], ◌∷◌, ◌++◌, length, drop, get_or, unwrap_or, Bool, true, false, ◌&&◌, refl, sym, ◌∙◌, ap, subst, arith, ℤ, pos, ◌*ℤ◌}
use Rattle.std.specs.List.{list_all, slice_get}
use Rattle.std.specs.Ordering.{int_eq}
use Rattle.std.proofs.lemmas.Bool.{and_parts, and_from}
use Rattle.std.proofs.lemmas.Bool.Decides.{Decides-int_eq}
use Rattle.std.proofs.lemmas.List.{get_or-take, get_or-drop}
use Rattle.std.proofs.lemmas.Nat.{pow_pos}
use Rattle.std.proofs.lemmas.Option.{unwrap_or-slice_get}
use Rattle.tree_key.specs.Keys.{Key, child, width, first_cell}
use Rattle.tree_key.proofs.FamilyLemmas.{child_fits}
use Rattle.tree_model.specs.CoarseningLaws.{WholeBoxesAreConstant, ConstantFromHalves}
use Rattle.tree_model.specs.Shapes.{is_key_of}
use Rattle.tree_model.specs.Trees.{Tree, IsTree, has_one_value, total}
use Rattle.tree_model.proofs.BelowLeafLemmas.{key_parts, constant_below}
use Rattle.tree_model.proofs.BoxSumLemmas.{Are, are_from_each, values_on, values_on_halves, total_are, length_values_on}
use Rattle.tree_model.proofs.IntegerLemmas.{times_cancel}

-- two tests of which each passes where the other does
pub same_tests : (a b : Bool) → (a ≡ true → b ≡ true) → (b ≡ true → a ≡ true) → a ≡ b
same_tests true b to from = sym (to refl)
same_tests false true to from = from refl
same_tests false false to from = refl

all_equal : (value : ℤ) (zs : List ℤ) → list_all (int_eq value) zs ≡ true → Are value zs
all_equal value [] all = tt
all_equal value (z ∷ zs) all =
    let parts = and_parts (int_eq value z) (list_all (int_eq value) zs) all in
    (sym ((Decides-int_eq value z).0 parts.0), all_equal value zs parts.1)

equal_all : (value : ℤ) (zs : List ℤ) → Are value zs → list_all (int_eq value) zs ≡ true
equal_all value [] are = refl
equal_all value (z ∷ zs) are = and_from (int_eq value z) (list_all (int_eq value) zs) ((Decides-int_eq value z).1 (sym are.0)) (equal_all value zs are.1)

-- the one value of a list
pub record OneValue (zs : List ℤ) : Type 0 where
  pub value : ℤ
  pub are : Are value zs

pub one_value : (zs : List ℤ) → has_one_value zs ≡ true → OneValue zs
one_value [] one = record { value = pos 0; are = tt }
one_value (z ∷ zs) one = record { value = z; are = (refl, all_equal z zs one) }

pub from_one_value : (value : ℤ) (zs : List ℤ) → Are value zs → has_one_value zs ≡ true
from_one_value value [] are = refl
from_one_value value (z ∷ zs) are = equal_all z zs (subst (λ v. Are v zs) (sym are.0) are.1)

are_left : (value : ℤ) (xs ys : List ℤ) → Are value (xs ++ ys) → Are value xs
are_left value [] ys are = tt
are_left value (x ∷ xs) ys are = (are.0, are_left value xs ys are.1)

are_right : (value : ℤ) (xs ys : List ℤ) → Are value (xs ++ ys) → Are value ys
are_right value [] ys are = are
are_right value (x ∷ xs) ys are = are_right value xs ys are.1

are_both : (value : ℤ) (xs ys : List ℤ) → Are value xs → Are value ys → Are value (xs ++ ys)
are_both value [] ys left right = right
are_both value (x ∷ xs) ys left right = (left.0, are_both value xs ys left.1 right)

-- two lists of one length, and not empty
record AreAlike (xs ys : List ℤ) : Type 0 where
  same : length xs ≡ length ys
  some : 0 < length xs

halves_of_one : (xs ys : List ℤ) → AreAlike xs ys → has_one_value (xs ++ ys) ≡ true → (has_one_value xs && (has_one_value ys && int_eq (total xs) (total ys))) ≡ true
halves_of_one xs ys alike one =
    let whole = one_value (xs ++ ys) one in
    let left = are_left whole.value xs ys whole.are in
    let right = are_right whole.value xs ys whole.are in
    let sums : total xs ≡ total ys = (total_are whole.value xs left ∙ ap (λ n. pos n *ℤ whole.value) alike.same ∙ sym (total_are whole.value ys right)) in
    and_from (has_one_value xs) _ (from_one_value whole.value xs left)
    (and_from (has_one_value ys) _ (from_one_value whole.value ys right) ((Decides-int_eq (total xs) (total ys)).1 sums))

one_of_halves : (xs ys : List ℤ) → AreAlike xs ys → (has_one_value xs && (has_one_value ys && int_eq (total xs) (total ys))) ≡ true → has_one_value (xs ++ ys) ≡ true
one_of_halves xs ys alike both =
    let parts = and_parts (has_one_value xs) _ both in
    let rest = and_parts (has_one_value ys) (int_eq (total xs) (total ys)) parts.1 in
    let left = one_value xs parts.0 in
    let right = one_value ys rest.0 in
    let sums : total xs ≡ total ys = (Decides-int_eq (total xs) (total ys)).0 rest.1 in
    let own : total ys ≡ pos (length xs) *ℤ right.value = (total_are right.value ys right.are ∙ ap (λ n. pos n *ℤ right.value) (sym alike.same)) in
    let values : right.value ≡ left.value = times_cancel (length xs) right.value left.value alike.some (sym own ∙ sym sums ∙ total_are left.value xs left.are) in
    from_one_value left.value (xs ++ ys) (are_both left.value xs ys left.are (subst (λ v. Are v ys) values right.are))

-- the halves of a box have as many values each
halves_alike : (t : Tree) (k : Key) → IsTree t → is_key_of t.depth k ≡ true → k.level < t.depth → AreAlike (values_on t.depth (child k false) t.cells) (values_on t.depth (child k true) t.cells)
halves_alike t k tree key above =
    let parts = key_parts t.depth k key in
    let left = length_values_on t (child k false) tree (omega arith) (child_fits k.level k.at false parts.at) in
    let right = length_values_on t (child k true) tree (omega arith) (child_fits k.level k.at true parts.at) in
    let some = pow_pos (t.depth - (k.level + 1)) in
    record { same = left ∙ sym right; some = omega arith }

pub constant_from_halves : ConstantFromHalves
constant_from_halves t k tree key above =
    let xs = values_on t.depth (child k false) t.cells in
    let ys = values_on t.depth (child k true) t.cells in
    let alike = halves_alike t k tree key above in
    ap has_one_value (values_on_halves t.depth k t.cells above)
    ∙ same_tests (has_one_value (xs ++ ys)) _ (halves_of_one xs ys alike) (one_of_halves xs ys alike)

-- the values on a box, by the cells
value_on_box : (t : Tree) (k : Key) (i : ℕ) → i < width t.depth k → get_or (values_on t.depth k t.cells) i (pos 0) ≡ unwrap_or (slice_get t.cells (first_cell t.depth k + i)) (pos 0)
value_on_box t k i within =
    get_or-take (width t.depth k) (drop (first_cell t.depth k) t.cells) i (pos 0) within
    ∙ get_or-drop (first_cell t.depth k) t.cells i (pos 0)
    ∙ sym (unwrap_or-slice_get t.cells (first_cell t.depth k + i) (pos 0))

pub whole_boxes_are_constant : WholeBoxesAreConstant
whole_boxes_are_constant t k tree whole =
    let parts = key_parts t.depth k whole.key in
    let first = first_cell t.depth k in
    let long = length_values_on t k tree parts.level parts.at in
    let value = unwrap_or (slice_get t.cells first) (pos 0) in
    from_one_value value (values_on t.depth k t.cells) (are_from_each value (values_on t.depth k t.cells) (λ i below.
    (let within : i < width t.depth k = omega (arith, long) in
    value_on_box t k i within
    ∙ ap (λ o. unwrap_or o (pos 0)) (constant_below t k (first + i) tree whole.key whole.uncut (record { from = omega arith; below = omega arith })))))
