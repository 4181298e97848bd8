-- Two trees that are added: their differences at a key, and the sums over its halves.
use Rattle.std.proofs.Common.{◌≡◌, ℕ, length, ◌*◌, ◌^◌, ◌<◌, ◌≤◌, Bool, true, false, cond, ◌&&◌, ◌||◌, Option, Some, None, refl, sym, ◌∙◌, ap, subst, arith, inl, inr, ℤ, pos, ◌+ℤ◌, ◌*ℤ◌, FitsSigned, w64, to_z, of_z}
use Rattle.std.specs.Int.RustNames.{unsigned_abs}
use Rattle.std.proofs.lemmas.Int.{ints}
use Rattle.std.proofs.lemmas.Bool.{cases_Bool, cases_lt, and_parts, or_left, false≢true}
use Rattle.std.proofs.lemmas.Option.{some_pair_parts}
use Rattle.tree_key.specs.Keys.{Key, root, child, width}
use Rattle.tree_model.specs.Functions.{max_value}
use Rattle.tree_model.specs.Nodes.{max_number}
use Rattle.tree_model.specs.StoredTrees.{difference_at}
use Rattle.tree_model.specs.Operations.{union, weighted_sum, overflows}
use Rattle.tree_model.specs.Shapes.{IsShape, is_interior, is_leaf, is_key_of}
use Rattle.tree_model.specs.Trees.{Tree, IsTree, box_sum, difference}
use Rattle.tree_model.proofs.BoundLemmas.{sums_fit}
use Rattle.tree_model.proofs.CombinedSumLemmas.{sums_linear}
use Rattle.tree_model.proofs.LeafSumLemmas.{overflow_leaves}
use Rattle.tree_model.proofs.BelowLeafLemmas.{key_parts}
use Rattle.tree_model.proofs.StoredTreeLemmas.{whole_boxes_are_even}
use Rattle.tree_operations.specs.Adding.{AreKept, AreKeptAt, two_differences}
use Rattle.tree_operations.specs.LeafValues.{LeavesHaveValues}
use Rattle.tree_operations.proofs.LeafValueLemmas.{leaf_has_values}
use Rattle.std.specs.BTreeMap.{BTreeMap}
use Rattle.tree_model.proofs.CombinedTreeLemmas.{union_shape, weighted_sum_tree}
use Rattle.tree_operations.specs.Numbers.{number_at, IsSound, KeepsDifferences}
use Rattle.tree_operations.specs.Filling.{under}
use Rattle.tree_operations.specs.InnerProducts.{IsCompressed}
use Rattle.tree_operations.proofs.StoredNumberLemmas.{passed}
use Rattle.tree_operations.proofs.ShapeLemmas.{no_interior_under}

-- a key with a child in a shape is in it
key_above : (depth : ℕ) (shape : Key → Bool) (k : Key) → IsShape depth shape → shape (child k false) ≡ true → shape k ≡ true
key_above depth shape k is left = is.parents k false left

interior_is : (depth : ℕ) (shape : Key → Bool) (k : Key) → IsShape depth shape → is_interior shape k ≡ shape (child k false)
interior_is depth shape k is = elim (cases_Bool (shape (child k false))) [
  | inl there ↦ rw (key_above depth shape k is there, there) refl
  | inr gone ↦ rw gone (and-false (shape k))
]
  where
    and-false : (b : Bool) → (b && false) ≡ false
    and-false true = refl
    and-false false = refl

-- the difference where a map has a number, and 0 where a tree doesn't cut a box
abbrev either : Option ℤ → Option ℤ → Option (ℤ × ℤ)
either None None = None
either (Some d) None = Some (d, pos 0)
either None (Some e) = Some (pos 0, e)
either (Some d) (Some e) = Some (d, e)

-- at a key that has children in the first tree
record IsCut (t : Tree) (k : Key) : Type 0 where
  key : is_key_of t.depth k ≡ true
  above : k.level < t.depth

cut_holds : (t : Tree) (k : Key) → IsSound t → t.shape (child k false) ≡ true → IsCut t k
cut_holds t k sound left =
    let deep = key_parts t.depth (child k false) (sound.tree.shape.keys (child k false) left) in
    record {
      key = sound.tree.shape.keys k (sound.tree.shape.parents k false left);
      above = omega (arith, deep.level);
    }

-- the difference at a key of a depth at which another tree is cut
even_where_whole : (t other : Tree) (k : Key) → IsSound t → t.depth ≡ other.depth → IsCut other k → t.shape (child k false) ≡ false → difference t k ≡ pos 0
even_where_whole t other k sound same cut whole =
    whole_boxes_are_even t k sound.tree (record { key = rw same cut.key; uncut = whole }) (rw same cut.above)

either_is :
    (f g : Tree) (k : Key) (left right : Bool) →
    IsSound f →
    IsSound g →
    f.depth ≡ g.depth →
    f.shape (child k false) ≡ left →
    g.shape (child k false) ≡ right →
    cond (left || right) (Some (difference f k, difference g k)) None ≡ either (cond left (Some (difference f k)) None) (cond right (Some (difference g k)) None)
either_is f g k true true first second same l r = refl
either_is f g k true false first second same l r = ap (λ d. Some (difference f k, d)) (even_where_whole g f k second (sym same) (cut_holds f k first l) r)
either_is f g k false true first second same l r = ap (λ d. Some (d, difference g k)) (even_where_whole f g k first same (cut_holds g k second r) l)
either_is f g k false false first second same l r = refl

union_is_shape : (f g : Tree) (left right : BTreeMap Key ℤ) (depth : ℕ) → AreKept f g left right depth → IsShape f.depth (union f.shape g.shape)
union_is_shape f g left right depth kept =
    let same : f.depth ≡ g.depth = (kept.first_depth ∙ sym kept.second_depth) in
    union_shape f.depth f.shape g.shape kept.first.sound.tree.shape (subst (λ n. IsShape n g.shape) (sym same) kept.second.sound.tree.shape)

-- what is stored of two trees at a key
pub two_of_them :
    (f g : Tree) (left right : BTreeMap Key ℤ) (depth : ℕ) (k : Key) →
    AreKept f g left right depth →
    two_differences f g k ≡ either (number_at left k) (number_at right k)
two_of_them f g left right depth k kept =
    let same : f.depth ≡ g.depth = (kept.first_depth ∙ sym kept.second_depth) in
    let shapes = union_is_shape f g left right depth kept in
    ap (λ b. cond b (Some (difference f k, difference g k)) None) (interior_is f.depth (union f.shape g.shape) k shapes)
    ∙ either_is f g k (f.shape (child k false)) (g.shape (child k false)) kept.first.sound kept.second.sound same refl refl
    ∙ ap (λ l. either l (cond (g.shape (child k false)) (Some (difference g k)) None)) (at-interior f k left kept.first)
    ∙ ap (either (number_at left k)) (at-interior g k right kept.second)
  where
    at-interior : (t : Tree) (k : Key) (m : BTreeMap Key ℤ) → KeepsDifferences t m → cond (t.shape (child k false)) (Some (difference t k)) None ≡ number_at m k
    at-interior t k m keeps = ap (λ b. cond b (Some (difference t k)) None) (sym (interior_is t.depth t.shape k keeps.sound.tree.shape)) ∙ sym (keeps.at k)

-- what is stored of two trees at a key where the maps have these numbers
pub two_known :
    (f g : Tree) (left right : BTreeMap Key ℤ) (depth : ℕ) (k : Key) (l r : Option ℤ) →
    AreKept f g left right depth →
    number_at left k ≡ l →
    number_at right k ≡ r →
    either l r ≡ two_differences f g k
two_known f g left right depth k l r kept first second = sym (two_of_them f g left right depth k kept ∙ ap (λ n. either n (number_at right k)) first ∙ ap (either l) second)

-- at a key that has children in one of two trees: the differences, and the keys below
pub record AreCutAt (f g : Tree) (k : Key) (l r : ℤ) : Type 0 where
  pub first : l ≡ difference f k
  pub second : r ≡ difference g k
  pub first_above : k.level < f.depth
  pub second_above : k.level < g.depth
  pub left : union f.shape g.shape (child k false) ≡ true
  pub right : union f.shape g.shape (child k true) ≡ true

some_differences : (b : Bool) (x y l r : ℤ) → cond {A = Option (ℤ × ℤ)} b (Some (x, y)) None ≡ Some (l, r) → (b ≡ true) × ((l ≡ x) × (r ≡ y))
some_differences true x y l r is = (refl, some_pair_parts l x r y (sym is))
some_differences false x y l r is = absurd (cc)

pub cut_there : (f g : Tree) (left right : BTreeMap Key ℤ) (depth : ℕ) (k : Key) (l r : ℤ) → AreKept f g left right depth → two_differences f g k ≡ Some (l, r) → AreCutAt f g k l r
cut_there f g left right depth k l r kept is =
    let parts = some_differences (is_interior (union f.shape g.shape) k) (difference f k) (difference g k) l r is in
    let keys = and_parts (union f.shape g.shape k) (union f.shape g.shape (child k false)) parts.0 in
    let shape = union_is_shape f g left right depth kept in
    let deep = key_parts f.depth (child k false) (shape.keys (child k false) keys.1) in
    let same : f.depth ≡ g.depth = (kept.first_depth ∙ sym kept.second_depth) in
    record {
      first = parts.1.0;
      second = parts.1.1;
      first_above = omega (arith, deep.level);
      second_above = omega (arith, deep.level);
      left = keys.1;
      right = shape.children k ∙ keys.1;
    }

-- a key that has no children in either tree
no_differences_here : (b : Bool) (x : ℤ × ℤ) → cond b (Some x) None ≡ None → b ≡ false
no_differences_here true x is = absurd (cc)
no_differences_here false x is = refl

pub uncut_at : (f g : Tree) (left right : BTreeMap Key ℤ) (depth : ℕ) (k : Key) → AreKept f g left right depth → two_differences f g k ≡ None → union f.shape g.shape (child k false) ≡ false
uncut_at f g left right depth k kept is =
    sym (interior_is f.depth (union f.shape g.shape) k (union_is_shape f g left right depth kept)) ∙ no_differences_here (is_interior (union f.shape g.shape) k) (difference f k, difference g k) is

-- the sum of two trees
lengths_agree : (f g : Tree) (left right : BTreeMap Key ℤ) (depth : ℕ) → AreKept f g left right depth → length f.cells ≡ length g.cells
lengths_agree f g left right depth kept =
    kept.first.sound.tree.cells ∙ ap (λ n. 2 ^ n) (kept.first_depth ∙ sym kept.second_depth) ∙ sym kept.second.sound.tree.cells

pub sum_at : (a : ℤ) (f : Tree) (b : ℤ) (g : Tree) (left right : BTreeMap Key ℤ) (depth : ℕ) (k : Key) → AreKept f g left right depth → box_sum (weighted_sum a f b g) k ≡ a *ℤ box_sum f k +ℤ b *ℤ box_sum g k
sum_at a f b g left right depth k kept = sums_linear.sums a f b g k (lengths_agree f g left right depth kept) (kept.first_depth ∙ sym kept.second_depth)

pub difference_there : (a : ℤ) (f : Tree) (b : ℤ) (g : Tree) (left right : BTreeMap Key ℤ) (depth : ℕ) (k : Key) → AreKept f g left right depth → difference (weighted_sum a f b g) k ≡ a *ℤ difference f k +ℤ b *ℤ difference g k
difference_there a f b g left right depth k kept = sums_linear.differences a f b g k (lengths_agree f g left right depth kept) (kept.first_depth ∙ sym kept.second_depth)

pub sum_is_tree : (a : ℤ) (f : Tree) (b : ℤ) (g : Tree) (left right : BTreeMap Key ℤ) (depth : ℕ) → AreKept f g left right depth → IsTree (weighted_sum a f b g)
sum_is_tree a f b g left right depth kept = weighted_sum_tree a f b g kept.first.sound.tree kept.second.sound.tree (kept.first_depth ∙ sym kept.second_depth)

-- a key of the union that neither tree cuts is a leaf of the sum, and the only one at it and below it
pub sum_over :
    (a : ℤ) (f : Tree) (b : ℤ) (g : Tree) (left right : BTreeMap Key ℤ) (depth : ℕ) (k : Key) (l r : ℤ) →
    AreKeptAt f g left right depth k l r →
    box_sum (weighted_sum a f b g) k ≡ a *ℤ l +ℤ b *ℤ r
sum_over a f b g left right depth k l r at = sum_at a f b g left right depth k at.kept ∙ ap (λ n. a *ℤ n +ℤ b *ℤ box_sum g k) (sym at.first_sum) ∙ ap (λ n. a *ℤ l +ℤ b *ℤ n) (sym at.second_sum)

uncut_is_leaf :
    (f g : Tree) (left right : BTreeMap Key ℤ) (depth : ℕ) (k : Key) (l r : ℤ) →
    AreKeptAt f g left right depth k l r →
    two_differences f g k ≡ None →
    is_leaf (union f.shape g.shape) k ≡ true
uncut_is_leaf f g left right depth k l r at none = rw (at.key, uncut_at f g left right depth k at.kept none) refl

pub leaf_within :
    (a : ℤ) (f : Tree) (b : ℤ) (g : Tree) (left right : BTreeMap Key ℤ) (depth : ℕ) (k : Key) (l r : ℤ) →
    AreKeptAt f g left right depth k l r →
    two_differences f g k ≡ None →
    unsigned_abs (a *ℤ l +ℤ b *ℤ r) ≤ width depth k * max_value →
    LeavesHaveValues (weighted_sum a f b g) k
leaf_within a f b g left right depth k l r at none small =
    leaf_has_values (weighted_sum a f b g) k (sum_is_tree a f b g left right depth at.kept) (uncut_is_leaf f g left right depth k l r at none) (rw (sum_over a f b g left right depth k l r at, at.kept.first_depth) small)

pub leaf_above :
    (a : ℤ) (f : Tree) (b : ℤ) (g : Tree) (left right : BTreeMap Key ℤ) (depth : ℕ) (k : Key) (l r : ℤ) →
    AreKeptAt f g left right depth k l r →
    two_differences f g k ≡ None →
    width depth k * max_value < unsigned_abs (a *ℤ l +ℤ b *ℤ r) →
    overflows (weighted_sum a f b g) ≡ true
leaf_above a f b g left right depth k l r at none over =
    let t = weighted_sum a f b g in
    let leaf = uncut_is_leaf f g left right depth k l r at none in
    let much : width f.depth k * max_value < unsigned_abs (box_sum t k) = rw (sum_over a f b g left right depth k l r at, at.kept.first_depth) over in
    (overflow_leaves t (sum_is_tree a f b g left right depth at.kept)).1 (k, record { leaf = leaf; over = much })

pub difference_is_small : (t : Tree) (k : Key) (d : ℤ) → IsSound t → d ≡ difference t k → unsigned_abs d ≤ max_number
difference_is_small t k d sound apart = rw apart ((sums_fit t sound.values sound.depth).differences k)

pub small_sum : (t : Tree) (k : Key) (s : ℤ) → IsSound t → s ≡ box_sum t k → unsigned_abs s ≤ max_number
small_sum t k s sound sum = let small = (sums_fit t sound.values sound.depth).sums k in rw sum (omega arith)

-- at a cut key the sum has a difference
pub difference_of_sum :
    (a : ℤ) (f : Tree) (b : ℤ) (g : Tree) (left right : BTreeMap Key ℤ) (depth : ℕ) (k : Key) (l r : ℤ) →
    AreKept f g left right depth →
    two_differences f g k ≡ Some (l, r) →
    difference_at (weighted_sum a f b g) k ≡ Some (a *ℤ l +ℤ b *ℤ r)
difference_of_sum a f b g left right depth k l r kept two =
    let cut = cut_there f g left right depth k l r kept two in
    let parts = some_differences (is_interior (union f.shape g.shape) k) (difference f k) (difference g k) l r two in
    rw parts.0 (ap Some (difference_there a f b g left right depth k kept ∙ ap (λ n. a *ℤ n +ℤ b *ℤ difference g k) (sym cut.first) ∙ ap (λ n. a *ℤ l +ℤ b *ℤ n) (sym cut.second)))

-- at a key that isn't cut and below it, it has none
pub no_differences_of_sum :
    (a : ℤ) (f : Tree) (b : ℤ) (g : Tree) (left right : BTreeMap Key ℤ) (depth : ℕ) (k other : Key) →
    AreKept f g left right depth →
    two_differences f g k ≡ None →
    under k other ≡ true →
    difference_at (weighted_sum a f b g) other ≡ None
no_differences_of_sum a f b g left right depth k other kept none inside =
    rw (no_interior_under f.depth (union f.shape g.shape) k other (union_is_shape f g left right depth kept) (uncut_at f g left right depth k kept none) inside) refl

-- a test that fails
pub within_from : (cells : ℕ) (z : ℤ) → (cells * max_value < unsigned_abs z → false ≡ true) → unsigned_abs z ≤ cells * max_value
within_from cells z no_more = elim (cases_lt (cells * max_value) (unsigned_abs z)) [ inl over ↦ absurd (false≢true (no_more over)) | inr within ↦ within ]

pub factor_fits : (a : ℤ) → unsigned_abs a ≤ 2 ^ 20 → FitsSigned w64 a
factor_fits a small = omega (arith, ints)

-- two compressed trees, at the root
pub roots_kept :
    (f g : Tree) (left right : BTreeMap Key ℤ) (depth : ℕ) (l r : ℤ) →
    IsCompressed f depth l left →
    IsCompressed g depth r right →
    FitsSigned w64 l →
    FitsSigned w64 r →
    AreKeptAt f g left right depth root (to_z w64 (of_z w64 l)) (to_z w64 (of_z w64 r))
roots_kept f g left right depth l r first second l_fits r_fits = record {
  kept = record { first = first.keeps; second = second.keeps; first_depth = first.deep; second_depth = second.deep };
  key = or_left (f.shape root) (g.shape root) first.keeps.sound.tree.shape.root;
  first_sum = passed l l_fits ∙ first.all;
  second_sum = passed r r_fits ∙ second.all;
}
