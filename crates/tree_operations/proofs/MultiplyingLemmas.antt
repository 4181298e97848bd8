-- Keys of the product of two trees.
use Rattle.std.proofs.Common.{◌≡◌, ℕ, ◌⊎◌, Bool, true, false, cond, Option, Some, None, Result, Ok, Err, inl, inr, refl, sym, ◌∙◌, ap, arith, ℤ, to_z, of_z, w64, FitsSigned}
use Rattle.std.specs.BTreeMap.{BTreeMap}
use Rattle.std.specs.Option.{option_zip}
use Rattle.std.specs.Result.{IsErrAnd}
use Rattle.std.proofs.lemmas.Bool.{or_left, or_right}
use Rattle.std.proofs.lemmas.Option.{same_Some}
use Rattle.tree_key.specs.Keys.{Key, child}
use Rattle.tree_model.specs.StoredTrees.{leaf_sum_at}
use Rattle.tree_model.specs.Operations.{union, product}
use Rattle.tree_model.specs.Shapes.{is_leaf}
use Rattle.tree_model.specs.Trees.{Tree, IsTree, box_sum}
use Rattle.tree_model.proofs.BelowLeafLemmas.{key_parts}
use Rattle.tree_model.proofs.CombinedTreeLemmas.{product_tree, leaf_there}
use Rattle.tree_operations.specs.Numbers.{number_at, same_key}
use Rattle.tree_operations.specs.Filling.{Fills}
use Rattle.tree_operations.specs.Multiplied.{IsKeyToMultiply, IsLeafToMultiply}
use Rattle.tree_operations.specs.WholeSums.{half_sum}
use Rattle.tree_operations.proofs.LeafFillingLemmas.{fills_leaf}
use Rattle.tree_operations.proofs.StoredNumberLemmas.{passed}
use Rattle.tree_operations.proofs.WholeSumLemmas.{AnswersWholeSum, IsCut, half_from_above, whole_with, cut_where_none, as_left}

-- an error that is passed on
pub same_error : {T E : Type 0} (passed : Result T E) (error : E) → IsErrAnd passed (λ e. e ≡ error) → passed ≡ Err error
same_error (Ok x) error is = absurd is
same_error (Err e) error is = ap Err is

-- a pair is there where both parts are
both_there : (left right : Option ℤ) (one other : ℤ) → Some (one, other) ≡ option_zip left right → (left ≡ Some one) × (right ≡ Some other)
both_there None right one other is = cc
both_there (Some x) None one other is = cc
both_there (Some x) (Some y) one other is =
    let same = same_Some (one, other) (x, y) is in
    (ap (λ (pair : ℤ × ℤ). Some pair.0) (sym same), ap (λ (pair : ℤ × ℤ). Some pair.1) (sym same))

one_is_none : (left right : Option ℤ) → None ≡ option_zip left right → (left ≡ None) ⊎ (right ≡ None)
one_is_none None right is = inl refl
one_is_none (Some x) None is = inr refl
one_is_none (Some x) (Some y) is = cc

depths_agree : (f g : Tree) (left right : BTreeMap Key ℤ) (depth : ℕ) (key : Key) (left_above right_above : Option ℤ) → IsKeyToMultiply f g left right depth key left_above right_above → f.depth ≡ g.depth
depths_agree f g left right depth key left_above right_above is = is.depth_left ∙ sym is.depth_right

pub product_of_two : (f g : Tree) (left right : BTreeMap Key ℤ) (depth : ℕ) (key : Key) (left_above right_above : Option ℤ) → IsKeyToMultiply f g left right depth key left_above right_above → IsTree (product f g)
product_of_two f g left right depth key left_above right_above is = product_tree f g is.keeps_left.sound.tree is.keeps_right.sound.tree (depths_agree f g left right depth key left_above right_above is)

-- where both trees have a sum over the key's box, the key is a leaf of the product
pub leaf_to_multiply :
    (f g : Tree) (left right : BTreeMap Key ℤ) (depth : ℕ) (key : Key) (left_above right_above left_sum right_sum : Option ℤ) (one other : ℤ) →
    IsKeyToMultiply f g left right depth key left_above right_above →
    AnswersWholeSum left key left_above left_sum →
    AnswersWholeSum right key right_above right_sum →
    Some (one, other) ≡ option_zip left_sum right_sum →
    IsLeafToMultiply f g depth key one other
leaf_to_multiply f g left right depth key left_above right_above left_sum right_sum one other is is_left is_right both =
    let parts = both_there left_sum right_sum one other both in
    let first = whole_with f key one (sym parts.0 ∙ is_left f is.keeps_left is.passed_left) in
    let second = whole_with g key other (sym parts.1 ∙ is_right g is.keeps_right is.passed_right) in
    record {
      sound_left = is.keeps_left.sound;
      sound_right = is.keeps_right.sound;
      depth_left = is.depth_left;
      depth_right = is.depth_right;
      leaf = rw (is.inside, first.uncut, second.uncut) refl;
      sum_left = first.sum;
      sum_right = second.sum;
    }

-- and else the product cuts its box
pub cut_in_product :
    (f g : Tree) (left right : BTreeMap Key ℤ) (depth : ℕ) (key : Key) (left_above right_above left_sum right_sum : Option ℤ) →
    IsKeyToMultiply f g left right depth key left_above right_above →
    AnswersWholeSum left key left_above left_sum →
    AnswersWholeSum right key right_above right_sum →
    None ≡ option_zip left_sum right_sum →
    IsCut (product f g) key
cut_in_product f g left right depth key left_above right_above left_sum right_sum is is_left is_right none =
    let cut : union f.shape g.shape (child key false) ≡ true = elim (one_is_none left_sum right_sum none) [
      | inl first ↦ or_left (f.shape (child key false)) (g.shape (child key false)) (cut_where_none f key (sym first ∙ is_left f is.keeps_left is.passed_left))
      | inr second ↦ or_right (f.shape (child key false)) (g.shape (child key false)) (cut_where_none g key (sym second ∙ is_right g is.keeps_right is.passed_right))
    ] in
    let tree = product_of_two f g left right depth key left_above right_above is in
    let deep = key_parts f.depth (child key false) (tree.shape.keys (child key false) cut) in
    record { left = cut; above = omega (arith, deep.level) }

pub child_to_multiply :
    (f g : Tree) (left right : BTreeMap Key ℤ) (depth : ℕ) (key : Key) (side : Bool) (left_above right_above left_sum right_sum left_half right_half : Option ℤ) →
    IsKeyToMultiply f g left right depth key left_above right_above →
    AnswersWholeSum left key left_above left_sum →
    AnswersWholeSum right key right_above right_sum →
    None ≡ option_zip left_sum right_sum →
    left_half ≡ half_sum left_sum →
    right_half ≡ half_sum right_sum →
    IsKeyToMultiply f g left right depth (child key side) left_half right_half
child_to_multiply f g left right depth key side left_above right_above left_sum right_sum left_half right_half is is_left is_right none left_halved right_halved =
    let cut = cut_in_product f g left right depth key left_above right_above left_sum right_sum is is_left is_right none in
    let tree = product_of_two f g left right depth key left_above right_above is in
    let inside = tree.shape.keys key is.inside in
    let same = depths_agree f g left right depth key left_above right_above is in
    let first = half_from_above f key side is.keeps_left.sound.tree inside cut.above in
    let second = half_from_above g key side is.keeps_right.sound.tree (rw (← same) inside) (omega (arith, cut.above, same)) in
    record {
      keeps_left = is.keeps_left;
      keeps_right = is.keeps_right;
      depth_left = is.depth_left;
      depth_right = is.depth_right;
      inside = as_left f.depth (union f.shape g.shape) key side tree.shape ∙ cut.left;
      passed_left = left_halved ∙ ap half_sum (is_left f is.keeps_left is.passed_left) ∙ sym first;
      passed_right = right_halved ∙ ap half_sum (is_right g is.keeps_right is.passed_right) ∙ sym second;
    }

-- the sum of a leaf is set
pub product_leaf_set :
    (f g : Tree) (key : Key) (sum : ℤ) (old new : BTreeMap Key ℤ) →
    IsTree (product f g) →
    is_leaf (union f.shape g.shape) key ≡ true →
    FitsSigned w64 sum →
    sum ≡ box_sum (product f g) key →
    ((k : Key) → number_at new k ≡ cond (same_key key k) (Some (to_z w64 (of_z w64 sum))) (number_at old k)) →
    Fills key (leaf_sum_at (product f g)) old new
product_leaf_set f g key sum old new tree leaf fits is set =
    let parts = leaf_there (union f.shape g.shape) key leaf in
    fills_leaf (product f g) key sum old new tree.shape parts.inside (record { uncut = parts.whole; sum = is }) (rw (passed sum fits) at set)
