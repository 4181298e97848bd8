-- Coarsened trees, from the leaves up.
use Rattle.std.proofs.Common.{◌≡◌, ◌<◌, ◌≤◌, ◌^◌, Bool, true, false, cond, not, ◌&&◌, inl, inr, Option, Some, None, refl, sym, ◌∙◌, ap, ℤ, ◌+ℤ◌}
use Rattle.std.specs.Prelude.{IfSome}
use Rattle.std.specs.BTreeMap.{BTreeMap}
use Rattle.std.specs.Int.RustNames.{unsigned_abs}
use Rattle.std.specs.Ordering.{int_eq}
use Rattle.std.proofs.lemmas.Bool.{cases_Bool, false_from_ne_true, false≢true}
use Rattle.std.proofs.lemmas.Option.{cond_some}
use Rattle.tree_key.specs.Keys.{Key, root, child}
use Rattle.tree_model.specs.Operations.{coarsened}
use Rattle.tree_model.specs.Shapes.{is_leaf}
use Rattle.tree_model.specs.StoredTrees.{leaf_sum_at, constant_sum}
use Rattle.tree_model.specs.Trees.{Tree, IsTree, is_constant, box_sum}
use Rattle.tree_model.proofs.BoxSumLemmas.{box_sum_children}
use Rattle.tree_model.proofs.CoarsenedTreeLemmas.{coarsened_tree, coarsened_values, coarsened_children, coarsened_leaves}
use Rattle.tree_model.proofs.CombinedTreeLemmas.{leaf_there}
use Rattle.tree_model.proofs.ConstantBoxLemmas.{constant_from_halves, whole_boxes_are_constant}
use Rattle.tree_operations.specs.Coarsening.{joined_sum}
use Rattle.tree_operations.specs.Filling.{under, below, Fills}
use Rattle.tree_operations.specs.Numbers.{same_key, IsSound}
use Rattle.tree_operations.proofs.FillingLemmas.{fills_nothing}
use Rattle.tree_operations.proofs.ShapeLemmas.{no_leaf_below}
use Rattle.tree_operations.proofs.StoredNumberLemmas.{IsLeafWith, some_or_nothing, sum_small}

-- on a leaf's box all values are the same
pub leaf_constant : (t : Tree) (k : Key) (number : ℤ) → IsSound t → IsLeafWith t k number → is_constant t k ≡ true
leaf_constant t k number sound leaf = whole_boxes_are_constant t k sound.tree (record { key = sound.tree.shape.keys k leaf.inside; uncut = leaf.none })

pub leaf_constant_sum : (t : Tree) (k : Key) (number : ℤ) → IsSound t → IsLeafWith t k number → Some number ≡ constant_sum t k
leaf_constant_sum t k number sound leaf = rw (leaf_constant t k number sound leaf, leaf.sum) refl

joined_where : (l r : Bool) (a b : ℤ) → joined_sum (cond l (Some a) None) (cond r (Some b) None) ≡ cond (l && (r && int_eq a b)) (Some (a +ℤ b)) None
joined_where true true a b = refl
joined_where true false a b = refl
joined_where false r a b = refl

-- a key with children, with the sums over its halves on which all values are the same
pub record HasHalves (t : Tree) (k : Key) (left right : Option ℤ) : Type 0 where
  pub sound : IsSound t
  pub inside : t.shape k ≡ true
  pub above : k.level < t.depth
  pub left_sum : left ≡ constant_sum t (child k false)
  pub right_sum : right ≡ constant_sum t (child k true)

-- these are joined
pub constant_joined : (t : Tree) (k : Key) (left right : Option ℤ) → HasHalves t k left right → joined_sum left right ≡ constant_sum t k
constant_joined t k left right halves =
    let l = box_sum t (child k false) in
    let r = box_sum t (child k true) in
    let same = is_constant t (child k false) && (is_constant t (child k true) && int_eq l r) in
    rw (halves.left_sum, halves.right_sum)
    (joined_where (is_constant t (child k false)) (is_constant t (child k true)) l r
    ∙ ap (λ sum. cond same (Some sum) None) (sym (box_sum_children t k halves.above))
    ∙ ap (λ b. cond b (Some (box_sum t k)) None) (sym (constant_from_halves t k halves.sound.tree (halves.sound.tree.shape.keys k halves.inside) halves.above)))

small_if : (b : Bool) (sum : ℤ) → unsigned_abs sum ≤ 2 ^ 40 → IfSome (cond b (Some sum) None) (λ z. unsigned_abs z ≤ 2 ^ 40)
small_if true sum small = small
small_if false sum small = tt

pub constant_small : (t : Tree) (k : Key) → IsSound t → IfSome (constant_sum t k) (λ z. unsigned_abs z ≤ 2 ^ 40)
constant_small t k sound = small_if (is_constant t k) (box_sum t k) (sum_small t k sound)

-- what a sum says of the values on a box
pub constant_where_sum : (t : Tree) (k : Key) (number : ℤ) → constant_sum t k ≡ Some number → is_constant t k ≡ true
constant_where_sum t k number is = (cond_some (is_constant t k) (box_sum t k) number is).0

pub split_where_none : (t : Tree) (k : Key) → constant_sum t k ≡ None → is_constant t k ≡ false
split_where_none t k is = some_or_nothing (is_constant t k) (box_sum t k) is

-- below a box on which all values are the same the coarsened tree has no key
uncut : (t : Tree) (k : Key) → IsTree t → is_constant t k ≡ true → (coarsened t).shape (child k false) ≡ false
uncut t k tree constant =
    false_from_ne_true ((coarsened t).shape (child k false)) (λ there.
    let inside = (coarsened_tree t tree).shape.parents k false there in
    let leaf : is_leaf (coarsened t).shape k ≡ true = (coarsened_leaves t k tree ∙ rw (inside, constant) refl) in
    let parts = leaf_there (coarsened t).shape k leaf in
    false≢true (sym parts.whole ∙ there))

pub no_half_leaf : (t : Tree) (k : Key) (side : Bool) → IsTree t → is_constant t k ≡ true → leaf_sum_at (coarsened t) (child k side) ≡ None
no_half_leaf t k false tree constant = rw (uncut t k tree constant) refl
no_half_leaf t k true tree constant = rw ((coarsened_tree t tree).shape.children k ∙ uncut t k tree constant) refl

no_leaf_at : (t : Tree) (top k : Key) → IsTree t → is_constant t top ≡ true → under top k ≡ true → below top (leaf_sum_at (coarsened t)) k ≡ None
no_leaf_at t top k tree constant inside = elim (cases_Bool (same_key top k)) [
  | inl same ↦ rw same refl
  | inr apart ↦
      let none = no_leaf_below t.depth (coarsened t).shape top k (coarsened_tree t tree).shape (uncut t top tree constant) inside apart in
      rw (apart, none) refl
]

pub nothing_below : (t : Tree) (k : Key) (sums : BTreeMap Key ℤ) → IsTree t → is_constant t k ≡ true → Fills k (below k (leaf_sum_at (coarsened t))) sums sums
nothing_below t k sums tree constant = fills_nothing k (below k (leaf_sum_at (coarsened t))) sums (λ other inside. no_leaf_at t k other tree constant inside)

-- a key of the coarsened tree is a leaf where all values on its box are the same
pub sum_inside : (t : Tree) (k : Key) → IsTree t → (coarsened t).shape k ≡ true → constant_sum t k ≡ leaf_sum_at (coarsened t) k
sum_inside t k tree inside =
    let leaf : is_leaf (coarsened t).shape k ≡ is_constant t k = (coarsened_leaves t k tree ∙ ap (λ b. b && is_constant t k) inside) in
    ap (λ b. cond b (Some (box_sum t k)) None) (sym leaf)

-- so are the halves of a box on which the values differ
pub sum_of_half : (t : Tree) (k : Key) (side : Bool) (left right : Option ℤ) → HasHalves t k left right → is_constant t k ≡ false → constant_sum t (child k side) ≡ leaf_sum_at (coarsened t) (child k side)
sum_of_half t k side left right halves differ =
    sum_inside t (child k side) halves.sound.tree (coarsened_children t k side (halves.sound.tree.shape.keys k halves.inside) halves.above ∙ ap not differ)

pub sum_of_root : (t : Tree) → IsTree t → constant_sum t root ≡ leaf_sum_at (coarsened t) root
sum_of_root t tree = sum_inside t root tree (coarsened_tree t tree).shape.root

pub coarsened_is_sound : (t : Tree) → IsSound t → IsSound (coarsened t)
coarsened_is_sound t sound = record { tree = coarsened_tree t sound.tree; values = coarsened_values t sound.values; depth = sound.depth }
