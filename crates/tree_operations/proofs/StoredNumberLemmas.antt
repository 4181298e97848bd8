-- Lemmas that crates above use: what the number that a map has at a key says of the tree that the map keeps.
use Rattle.std.proofs.Common.{◌≡◌, ◌≤◌, ◌<◌, ◌^◌, Bool, true, false, cond, ◌&&◌, not, Some, None, refl, sym, ◌∙◌, ℤ, ◌+ℤ◌, ◌-ℤ◌, to_z, of_z, w64, FitsSigned, arith}
use Rattle.std.specs.BTreeMap.{BTreeMap}
use Rattle.std.specs.Int.RustNames.{unsigned_abs}
use Rattle.std.proofs.lemmas.Bool.{and_parts}
use Rattle.std.proofs.lemmas.Int.{to_z-of_z}
use Rattle.tree_model.proofs.BoxSumLemmas.{box_sum_children}
use Rattle.std.proofs.lemmas.Option.{cond_some, none-some}
use Rattle.tree_key.specs.Keys.{Key, child}
use Rattle.tree_model.specs.StoredTrees.{difference_at}
use Rattle.tree_model.specs.Shapes.{is_leaf}
use Rattle.tree_model.specs.Trees.{Tree, box_sum, difference}
use Rattle.tree_model.proofs.BelowLeafLemmas.{key_parts}
use Rattle.tree_model.proofs.BoundLemmas.{sums_fit}
use Rattle.tree_operations.specs.Numbers.{number_at, IsSound, KeepsLeaves}
use Rattle.tree_operations.specs.Filling.{under}
use Rattle.tree_operations.proofs.ShapeLemmas.{no_interior_under}

-- a number stands at a leaf, and is its sum
pub record IsLeafWith (t : Tree) (k : Key) (number : ℤ) : Type 0 where
  pub inside : t.shape k ≡ true
  pub none : t.shape (child k false) ≡ false
  pub sum : number ≡ box_sum t k

not_true_is_false : (b : Bool) → not b ≡ true → b ≡ false
not_true_is_false true is = sym is
not_true_is_false false is = refl

pub leaf_with : (t : Tree) (leaves : BTreeMap Key ℤ) (k : Key) (number : ℤ) → KeepsLeaves t leaves → number_at leaves k ≡ Some number → IsLeafWith t k number
leaf_with t leaves k number keeps found =
    let there = cond_some (is_leaf t.shape k) (box_sum t k) number (sym (keeps.at k) ∙ found) in
    let parts = and_parts (t.shape k) (not (t.shape (child k false))) there.0 in
    record { inside = parts.0; none = not_true_is_false (t.shape (child k false)) parts.1; sum = sym there.1 }

-- a key of the tree where no number stands has both children
pub record HasChildren (t : Tree) (k : Key) : Type 0 where
  pub left : t.shape (child k false) ≡ true
  pub right : t.shape (child k true) ≡ true
  pub above : k.level < t.depth

pub some_or_nothing : (b : Bool) (x : ℤ) → cond b (Some x) None ≡ None → b ≡ false
some_or_nothing true x is = absurd (none-some x (sym is))
some_or_nothing false x is = refl

both_or_not : (a b : Bool) → a ≡ true → (a && not b) ≡ false → b ≡ true
both_or_not true true a absent = refl
both_or_not true false a absent = sym absent
both_or_not false true a absent = refl
both_or_not false false a absent = a

has_children : (t : Tree) (k : Key) → IsSound t → t.shape (child k false) ≡ true → HasChildren t k
has_children t k sound left =
    let deep = key_parts t.depth (child k false) (sound.tree.shape.keys (child k false) left) in
    record {
      left = left;
      right = sound.tree.shape.children k ∙ left;
      above = omega (arith, deep.level);
    }

pub children_where_no_leaf : (t : Tree) (leaves : BTreeMap Key ℤ) (k : Key) → KeepsLeaves t leaves → t.shape k ≡ true → number_at leaves k ≡ None → HasChildren t k
children_where_no_leaf t leaves k keeps inside found =
    let no = some_or_nothing (is_leaf t.shape k) (box_sum t k) (sym (keeps.at k) ∙ found) in
    has_children t k keeps.sound (both_or_not (t.shape k) (t.shape (child k false)) inside no)

-- a key with children has its difference
pub difference_there : (t : Tree) (k : Key) → t.shape k ≡ true → t.shape (child k false) ≡ true → difference_at t k ≡ Some (difference t k)
difference_there t k inside left = rw (inside, left) refl

-- no key at a leaf or below it has a difference
pub no_differences : (t : Tree) (top k : Key) → IsSound t → t.shape (child top false) ≡ false → under top k ≡ true → difference_at t k ≡ None
no_differences t top k sound none inside = rw (no_interior_under t.depth t.shape top k sound.tree.shape none inside) refl

-- the sums over boxes of a sound tree are small
pub sum_small : (t : Tree) (k : Key) → IsSound t → unsigned_abs (box_sum t k) ≤ 2 ^ 40
sum_small t k sound = (sums_fit t sound.values sound.depth).sums k

-- a number that a body passes on
pub passed : (z : ℤ) → FitsSigned w64 z → to_z w64 (of_z w64 z) ≡ z
passed z fits = to_z-of_z w64 z fits

pub passed_small : (t : Tree) (k : Key) (z : ℤ) → IsSound t → FitsSigned w64 z → z ≡ box_sum t k → unsigned_abs (to_z w64 (of_z w64 z)) ≤ 2 ^ 40
passed_small t k z sound fits is = rw (passed z fits, is) (sum_small t k sound)

-- the sums over two halves are joined
pub joined_sum :
    (t : Tree) (k : Key) (sum left right : ℤ) →
    k.level < t.depth →
    FitsSigned w64 sum →
    FitsSigned w64 left →
    FitsSigned w64 right →
    left ≡ box_sum t (child k false) →
    right ≡ box_sum t (child k true) →
    sum ≡ to_z w64 (of_z w64 left) +ℤ to_z w64 (of_z w64 right) →
    to_z w64 (of_z w64 sum) ≡ box_sum t k
joined_sum t k sum left right above fits left_fits right_fits l r joined = rw (passed sum fits, joined, passed left left_fits, passed right right_fits, l, r) (sym (box_sum_children t k above))

pub joined_difference :
    (t : Tree) (k : Key) (apart left right : ℤ) →
    FitsSigned w64 apart →
    FitsSigned w64 left →
    FitsSigned w64 right →
    left ≡ box_sum t (child k false) →
    right ≡ box_sum t (child k true) →
    apart ≡ to_z w64 (of_z w64 left) -ℤ to_z w64 (of_z w64 right) →
    to_z w64 (of_z w64 apart) ≡ difference t k
joined_difference t k apart left right fits left_fits right_fits l r joined = rw (passed apart fits, joined, passed left left_fits, passed right right_fits, l, r) refl
