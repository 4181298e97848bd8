-- What the difference that a map has at a key says of the tree that the map keeps.
use Rattle.std.proofs.Common.{◌≡◌, ◌≤◌, ◌<◌, Bool, true, false, cond, ◌&&◌, Some, None, refl, sym, ◌∙◌, ℤ, pos, ◌+ℤ◌, ◌-ℤ◌, ◌*ℤ◌, to_z, of_z, w64, FitsSigned, arith}
use Rattle.std.specs.BTreeMap.{BTreeMap}
use Rattle.std.specs.Int.RustNames.{unsigned_abs, int_rem}
use Rattle.std.proofs.lemmas.Bool.{and_parts}
use Rattle.std.proofs.lemmas.Int.{ints}
use Rattle.std.proofs.lemmas.Option.{cond_some, none-some}
use Rattle.tree_key.specs.Keys.{Key, child}
use Rattle.tree_model.specs.StoredTrees.{leaf_sum_at}
use Rattle.tree_model.specs.Nodes.{max_number}
use Rattle.tree_model.specs.Shapes.{is_interior}
use Rattle.tree_model.specs.Trees.{Tree, box_sum, difference}
use Rattle.tree_model.proofs.BoundLemmas.{sums_fit}
use Rattle.tree_model.proofs.BoxSumLemmas.{box_sum_children, key_of_tree}
use Rattle.tree_operations.specs.Numbers.{number_at, same_key, IsSound, KeepsDifferences}
use Rattle.tree_operations.specs.Filling.{under}
use Rattle.tree_operations.proofs.ShapeLemmas.{no_leaf_below}
use Rattle.tree_operations.proofs.StoredNumberLemmas.{passed}

-- a number stands at a key that has children, and is the difference of its halves
pub record HasHalves (t : Tree) (k : Key) (number : ℤ) : Type 0 where
  pub interior : is_interior t.shape k ≡ true
  pub inside : t.shape k ≡ true
  pub left : t.shape (child k false) ≡ true
  pub right : t.shape (child k true) ≡ true
  pub above : k.level < t.depth
  pub apart : number ≡ difference t k

pub halves_with : (t : Tree) (differences : BTreeMap Key ℤ) (k : Key) (number : ℤ) → KeepsDifferences t differences → number_at differences k ≡ Some number → HasHalves t k number
halves_with t differences k number keeps found =
    let there = cond_some (is_interior t.shape k) (difference t k) number (sym (keeps.at k) ∙ found) in
    let parts = and_parts (t.shape k) (t.shape (child k false)) there.0 in
    let deep = (key_of_tree t (child k false) keeps.sound.tree parts.1).0 in
    record {
      interior = there.0;
      inside = parts.0;
      left = parts.1;
      right = keeps.sound.tree.shape.children k ∙ parts.1;
      above = omega arith;
      apart = sym there.1;
    }

some_or_nothing : (b : Bool) (x : ℤ) → cond b (Some x) None ≡ None → b ≡ false
some_or_nothing true x is = absurd (none-some x (sym is))
some_or_nothing false x is = refl

-- a key where no number stands has no children
pub no_halves : (t : Tree) (differences : BTreeMap Key ℤ) (k : Key) → KeepsDifferences t differences → number_at differences k ≡ None → is_interior t.shape k ≡ false
no_halves t differences k keeps found = some_or_nothing (is_interior t.shape k) (difference t k) (sym (keeps.at k) ∙ found)

not_second : (a b : Bool) → a ≡ true → (a && b) ≡ false → b ≡ false
not_second true b first none = none
not_second false b first none = absurd (cc)

-- so a key of the tree where no number stands is a leaf
pub no_child_there : (t : Tree) (differences : BTreeMap Key ℤ) (k : Key) → KeepsDifferences t differences → t.shape k ≡ true → number_at differences k ≡ None → t.shape (child k false) ≡ false
no_child_there t differences k keeps inside found = not_second (t.shape k) (t.shape (child k false)) inside (no_halves t differences k keeps found)

-- a leaf has its sum, and no key below it has one
pub leaf_sum_there : (t : Tree) (k : Key) → t.shape k ≡ true → t.shape (child k false) ≡ false → leaf_sum_at t k ≡ Some (box_sum t k)
leaf_sum_there t k inside none = rw (inside, none) refl

pub no_leaf_sums : (t : Tree) (top k : Key) → IsSound t → t.shape (child top false) ≡ false → under top k ≡ true → same_key top k ≡ false → leaf_sum_at t k ≡ None
no_leaf_sums t top k sound none inside apart = rw (no_leaf_below t.depth t.shape top k sound.tree.shape none inside apart) refl

-- a key with children has no sum
pub no_leaf_sum : (t : Tree) (k : Key) → t.shape k ≡ true → t.shape (child k false) ≡ true → leaf_sum_at t k ≡ None
no_leaf_sum t k inside left = rw (inside, left) refl

-- the sum over a box and the difference of its halves are what `split` takes
pub record AreSplit (whole number : ℤ) : Type 0 where
  pub sum : unsigned_abs whole ≤ max_number
  pub apart : unsigned_abs number ≤ max_number
  pub even : int_rem (whole +ℤ number) (pos 2) ≡ pos 0

pub splits :
    (t : Tree) (k : Key) (whole number : ℤ) →
    IsSound t →
    k.level < t.depth →
    FitsSigned w64 whole →
    FitsSigned w64 number →
    whole ≡ box_sum t k →
    number ≡ difference t k →
    AreSplit (to_z w64 (of_z w64 whole)) (to_z w64 (of_z w64 number))
splits t k whole number sound above fits_whole fits_number s d =
    let small = sums_fit t sound.values sound.depth in
    let sum = small.sums k in
    record {
      sum = rw (passed whole fits_whole, s) (omega arith);
      apart = rw (passed number fits_number, d) (small.differences k);
      even = rw (passed whole fits_whole, passed number fits_number, s, d) (small.even k above);
    }

-- the halves of a sum and a difference
sum_of_half : (a b z : ℤ) → pos 2 *ℤ z ≡ (a +ℤ b) +ℤ (a -ℤ b) → z ≡ a
sum_of_half a b z twice = omega (arith, ints)

half_difference : (a b z : ℤ) → pos 2 *ℤ z ≡ (a +ℤ b) -ℤ (a -ℤ b) → z ≡ b
half_difference a b z twice = omega (arith, ints)

pub half_on_the_left :
    (t : Tree) (k : Key) (left whole number : ℤ) →
    k.level < t.depth →
    FitsSigned w64 left →
    FitsSigned w64 whole →
    FitsSigned w64 number →
    whole ≡ box_sum t k →
    number ≡ difference t k →
    pos 2 *ℤ left ≡ to_z w64 (of_z w64 whole) +ℤ to_z w64 (of_z w64 number) →
    to_z w64 (of_z w64 left) ≡ box_sum t (child k false)
half_on_the_left t k left whole number above fits fits_whole fits_number s d twice =
    passed left fits
    ∙ sum_of_half (box_sum t (child k false)) (box_sum t (child k true)) left (rw (passed whole fits_whole, passed number fits_number, s, d, box_sum_children t k above) at twice)

pub half_on_the_right :
    (t : Tree) (k : Key) (right whole number : ℤ) →
    k.level < t.depth →
    FitsSigned w64 right →
    FitsSigned w64 whole →
    FitsSigned w64 number →
    whole ≡ box_sum t k →
    number ≡ difference t k →
    pos 2 *ℤ right ≡ to_z w64 (of_z w64 whole) -ℤ to_z w64 (of_z w64 number) →
    to_z w64 (of_z w64 right) ≡ box_sum t (child k true)
half_on_the_right t k right whole number above fits fits_whole fits_number s d twice =
    passed right fits
    ∙ half_difference (box_sum t (child k false)) (box_sum t (child k true)) right (rw (passed whole fits_whole, passed number fits_number, s, d, box_sum_children t k above) at twice)
