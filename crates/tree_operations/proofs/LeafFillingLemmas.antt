-- Maps are filled with the sums of leaves.
use Rattle.std.proofs.Common.{◌≡◌, Bool, true, false, cond, not, ◌&&◌, Option, Some, None, refl, sym, ap, ℤ}
use Rattle.std.specs.BTreeMap.{BTreeMap}
use Rattle.tree_key.specs.Keys.{Key, child}
use Rattle.tree_model.specs.StoredTrees.{leaf_sum_at}
use Rattle.tree_model.specs.Shapes.{IsShape}
use Rattle.tree_model.specs.Trees.{Tree, box_sum}
use Rattle.tree_operations.specs.Numbers.{number_at, same_key}
use Rattle.tree_operations.specs.Filling.{Fills}
use Rattle.tree_operations.proofs.FillingLemmas.{fills_top, fills_halves}
use Rattle.tree_operations.proofs.ShapeLemmas.{no_leaf_below}
use Rattle.tree_operations.proofs.WholeSumLemmas.{IsWholeWith}

-- the key is a leaf
leaf_sum_there : (t : Tree) (k : Key) (sum : ℤ) → t.shape k ≡ true → IsWholeWith t k sum → leaf_sum_at t k ≡ Some sum
leaf_sum_there t k sum inside whole = rw (inside, whole.uncut) (ap Some (sym whole.sum))

pub fills_leaf :
    (t : Tree) (top : Key) (sum : ℤ) (old new : BTreeMap Key ℤ) →
    IsShape t.depth t.shape →
    t.shape top ≡ true →
    IsWholeWith t top sum →
    ((k : Key) → number_at new k ≡ cond (same_key top k) (Some sum) (number_at old k)) →
    Fills top (leaf_sum_at t) old new
fills_leaf t top sum old new shape inside whole set =
    fills_top top (leaf_sum_at t) sum old new (leaf_sum_there t top sum inside whole)
    (λ k under apart. (let gone = no_leaf_below t.depth t.shape top k shape whole.uncut under apart in rw gone refl))
    set

-- the key has children
cut_tests : (here cut : Bool) (number : Option ℤ) → cut ≡ true → cond (here && not cut) number None ≡ None
cut_tests true cut number is = rw is refl
cut_tests false cut number is = refl

pub no_leaf_sum : (t : Tree) (k : Key) → t.shape (child k false) ≡ true → leaf_sum_at t k ≡ None
no_leaf_sum t k cut = cut_tests (t.shape k) (t.shape (child k false)) (Some (box_sum t k)) cut

pub fills_children :
    (t : Tree) (top : Key) (old half new : BTreeMap Key ℤ) →
    t.shape (child top false) ≡ true →
    Fills (child top false) (leaf_sum_at t) old half →
    Fills (child top true) (leaf_sum_at t) half new →
    Fills top (leaf_sum_at t) old new
fills_children t top old half new cut left right = fills_halves top (leaf_sum_at t) old half new (no_leaf_sum t top cut) left right
