-- Lemmas that crates above use: what the differences that two maps have at a key add to the inner product of the trees that
-- the maps keep.
use Rattle.std.proofs.Common.{◌≡◌, ℕ, ◌≤◌, ◌^◌, Bool, true, false, ◌&&◌, None, refl, sym, ◌∙◌, subst, ℤ, pos, ◌+ℤ◌, ◌*ℤ◌, to_z, of_z, w64, FitsSigned, arith}
use Rattle.std.specs.BTreeMap.{BTreeMap}
use Rattle.std.specs.Int.{w128}
use Rattle.std.specs.Int.RustNames.{unsigned_abs, int_rem}
use Rattle.std.proofs.lemmas.Bool.{and_from}
use Rattle.std.proofs.lemmas.Int.{to_z-of_z}
use Rattle.tree_key.specs.Keys.{Key, root, child}
use Rattle.tree_model.specs.Laws.{PartsFit}
use Rattle.tree_model.specs.Nodes.{max_number}
use Rattle.tree_model.specs.Products.{is_common, inner_part}
use Rattle.tree_model.specs.Shapes.{is_interior}
use Rattle.tree_model.specs.Trees.{Tree, box_sum, difference}
use Rattle.tree_model.proofs.BoundLemmas.{sums_fit, inner_parts_fit}
use Rattle.tree_model.proofs.InnerProductLemmas.{inner_parts_follow}
use Rattle.tree_operations.specs.InnerProducts.{IsCompressed}
use Rattle.tree_operations.specs.Numbers.{number_at, IsSound, KeepsDifferences}
use Rattle.tree_operations.proofs.StoredNumberLemmas.{passed}
use Rattle.tree_operations.proofs.StoredDifferenceLemmas.{HasHalves, no_halves}

pub passed_wide : (z : ℤ) → FitsSigned w128 z → to_z w128 (of_z w128 z) ≡ z
passed_wide z fits = to_z-of_z w128 z fits

pub difference_small : (t : Tree) (k : Key) (number : ℤ) → IsSound t → FitsSigned w64 number → number ≡ difference t k → unsigned_abs (to_z w64 (of_z w64 number)) ≤ max_number
difference_small t k number sound fits is = rw (passed number fits, is) ((sums_fit t sound.values sound.depth).differences k)

pub sum_small_enough : (t : Tree) (k : Key) (number : ℤ) → IsSound t → FitsSigned w64 number → number ≡ box_sum t k → unsigned_abs (to_z w64 (of_z w64 number)) ≤ max_number
sum_small_enough t k number sound fits is =
    let small = (sums_fit t sound.values sound.depth).sums k in
    rw (passed number fits, is) (omega arith)

pub parts_fit : (f g : Tree) → IsSound f → IsSound g → f.depth ≡ g.depth → PartsFit f g
parts_fit f g sound_f sound_g same = inner_parts_fit f g sound_f.tree sound_g.tree same sound_f.depth sound_f.values sound_g.values

pub part_small : (f g : Tree) (k : Key) (part : ℤ) → IsSound f → IsSound g → f.depth ≡ g.depth → FitsSigned w128 part → part ≡ inner_part f g k → unsigned_abs (to_z w128 (of_z w128 part)) ≤ 2 ^ 90
part_small f g k part sound_f sound_g same fits is = rw (passed_wide part fits, is) ((parts_fit f g sound_f sound_g same).part k)

-- what the children add, and the product of the differences
pub combined_part :
    (f g : Tree) (k : Key) (part number other left right : ℤ) →
    HasHalves f k number →
    HasHalves g k other →
    FitsSigned w128 part →
    FitsSigned w64 number →
    FitsSigned w64 other →
    FitsSigned w128 left →
    FitsSigned w128 right →
    left ≡ inner_part f g (child k false) →
    right ≡ inner_part f g (child k true) →
    part ≡ to_z w64 (of_z w64 number) *ℤ to_z w64 (of_z w64 other) +ℤ pos 2 *ℤ (to_z w128 (of_z w128 left) +ℤ to_z w128 (of_z w128 right)) →
    to_z w128 (of_z w128 part) ≡ inner_part f g k
combined_part f g k part number other left right in_f in_g fits fits_number fits_other fits_left fits_right l r made =
    let common : is_common f g k ≡ true = and_from (is_interior f.shape k) (is_interior g.shape k) in_f.interior in_g.interior in
    let follows = (inner_parts_follow f g).common k in_f.above common in
    rw (passed_wide part fits, made, passed number fits_number, passed other fits_other, passed_wide left fits_left, passed_wide right fits_right, in_f.apart, in_g.apart, l, r) (sym follows)

-- where one of the maps has no difference, nothing is added
not_both_first : (a b : Bool) → a ≡ false → (a && b) ≡ false
not_both_first true b none = absurd (cc)
not_both_first false b none = refl

not_both_second : (a b : Bool) → b ≡ false → (a && b) ≡ false
not_both_second true b none = none
not_both_second false b none = refl

pub nothing_in_first : (f g : Tree) (differences : BTreeMap Key ℤ) (k : Key) → KeepsDifferences f differences → number_at differences k ≡ None → pos 0 ≡ inner_part f g k
nothing_in_first f g differences k keeps found =
    sym ((inner_parts_follow f g).other k (not_both_first (is_interior f.shape k) (is_interior g.shape k) (no_halves f differences k keeps found)))

pub nothing_in_second : (f g : Tree) (differences : BTreeMap Key ℤ) (k : Key) → KeepsDifferences g differences → number_at differences k ≡ None → pos 0 ≡ inner_part f g k
nothing_in_second f g differences k keeps found =
    sym ((inner_parts_follow f g).other k (not_both_second (is_interior f.shape k) (is_interior g.shape k) (no_halves g differences k keeps found)))

-- what `finish_inner` takes of two trees that are kept
pub record AreFinished (left right part : ℤ) (depth : ℕ) : Type 0 where
  pub small_left : unsigned_abs left ≤ max_number
  pub small_right : unsigned_abs right ≤ max_number
  pub small_part : unsigned_abs part ≤ 2 ^ 100
  pub exact : int_rem (left *ℤ right +ℤ part) (pos (2 ^ depth)) ≡ pos 0

pub depths_agree : (f g : Tree) (depth : ℕ) → f.depth ≡ depth → g.depth ≡ depth → f.depth ≡ g.depth
depths_agree f g depth deep_f deep_g = deep_f ∙ sym deep_g

pub finishes :
    (f g : Tree) (depth : ℕ) (left right part : ℤ) (left_differences right_differences : BTreeMap Key ℤ) →
    IsCompressed f depth left left_differences →
    IsCompressed g depth right right_differences →
    FitsSigned w64 left →
    FitsSigned w64 right →
    FitsSigned w128 part →
    part ≡ inner_part f g root →
    AreFinished (to_z w64 (of_z w64 left)) (to_z w64 (of_z w64 right)) (to_z w128 (of_z w128 part)) depth
finishes f g depth left right part left_differences right_differences is_f is_g fits_left fits_right fits_part p =
    let sound_f = is_f.keeps.sound in
    let sound_g = is_g.keeps.sound in
    let same = depths_agree f g depth is_f.deep is_g.deep in
    let small = part_small f g root part sound_f sound_g same fits_part p in
    let whole = (parts_fit f g sound_f sound_g same).exact in
    record {
      small_left = sum_small_enough f root left sound_f fits_left is_f.all;
      small_right = sum_small_enough g root right sound_g fits_right is_g.all;
      small_part = omega arith;
      exact = rw (passed left fits_left, passed right fits_right, passed_wide part fits_part, is_f.all, is_g.all, p)
          (subst (λ d. int_rem (box_sum f root *ℤ box_sum g root +ℤ inner_part f g root) (pos (2 ^ d)) ≡ pos 0) is_f.deep whole);
    }
