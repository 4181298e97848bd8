-- Lemmas that crates above use: trees made of trees: with more keys, or of two trees cell by cell.
use Rattle.std.proofs.Common.{◌≡◌, ℕ, zero, suc, ◌+◌, ◌^◌, inl, inr, List, [], ◌∷◌, map, Bool, true, false, not, ◌&&◌, leb, Option, Some, None, refl, sym, ◌∙◌, ap, subst, arith, ℤ}
use Rattle.std.specs.List.{slice_get, zip}
use Rattle.std.proofs.lemmas.Bool.{and_parts, or_parts, or_cases, or_left, or_right, leb-true, le-leb, not-true, cases_lt, le-ltb, lt-ltb}
use Rattle.std.proofs.lemmas.List.{length-map}
use Rattle.std.proofs.lemmas.Option.{slice_get-map}
use Rattle.std.proofs.lemmas.Slice.Zip.{length-zip}
use Rattle.tree_key.specs.Keys.{Key, root, child, first_cell}
use Rattle.tree_key.proofs.PowerLemmas.{twice}
use Rattle.tree_key.proofs.FamilyLemmas.{half_fits}
use Rattle.tree_model.specs.OperationLaws.{RefinedIsTree, WeightedSumIsTree, ProductIsTree}
use Rattle.tree_model.specs.Operations.{refined, union}
use Rattle.tree_model.specs.Shapes.{IsShape, is_key_of, is_leaf}
use Rattle.tree_model.specs.Trees.{Tree, IsTree}
use Rattle.tree_model.proofs.BelowLeafLemmas.{key_parts, key_from_parts, constant_below}

-- what a leaf is
pub record IsLeaf (shape : Key → Bool) (k : Key) : Type 0 where
  pub inside : shape k ≡ true
  pub whole : shape (child k false) ≡ false

pub leaf_there : (shape : Key → Bool) (k : Key) → is_leaf shape k ≡ true → IsLeaf shape k
leaf_there shape k is =
    let tests = and_parts (shape k) (not (shape (child k false))) is in
    record { inside = tests.0; whole = not-true _ tests.1 }

-- both children of a key are keys of a depth, or neither is
pub twins : (depth : ℕ) (k : Key) → is_key_of depth (child k true) ≡ is_key_of depth (child k false)
twins depth k = ap (λ b. leb (k.level + 1) depth && b) (elim (cases_lt k.at (2 ^ k.level)) [
  | inl low ↦ lt-ltb _ _ (omega (arith, twice k.level)) ∙ sym (lt-ltb _ _ (omega (arith, twice k.level)))
  | inr high ↦ le-ltb _ _ (omega (arith, twice k.level)) ∙ sym (le-ltb _ _ (omega (arith, twice k.level)))
])

-- the keys down to a level, with their parents
parent_within : (depth level : ℕ) (k : Key) (right : Bool) → (is_key_of depth (child k right) && leb (k.level + 1) level) ≡ true → (is_key_of depth k && leb k.level level) ≡ true
parent_within depth level k right is =
    let tests = and_parts (is_key_of depth (child k right)) (leb (k.level + 1) level) is in
    let key = key_parts depth (child k right) tests.0 in
    let below = leb-true (k.level + 1) level tests.1 in
    rw (key_from_parts depth k (omega (arith, key.level)) (half_fits k.level k.at right key.at), le-leb k.level level (omega arith)) refl

refined_shape : (level : ℕ) (t : Tree) → IsShape t.depth t.shape → IsShape t.depth (refined level t).shape
refined_shape level t is = record {
  keys = λ k is_in. elim (or_cases (t.shape k) (is_key_of t.depth k && leb k.level level) is_in) [
    | inl old ↦ is.keys k old
    | inr new ↦ (and_parts (is_key_of t.depth k) (leb k.level level) new).0
  ];
  root = or_left (t.shape root) _ is.root;
  parents = λ k right is_in. elim (or_cases (t.shape (child k right)) (is_key_of t.depth (child k right) && leb (k.level + 1) level) is_in) [
    | inl old ↦ or_left (t.shape k) _ (is.parents k right old)
    | inr new ↦ or_right (t.shape k) (is_key_of t.depth k && leb k.level level) (parent_within t.depth level k right new)
  ];
  children = λ k. rw (is.children k, twins t.depth k) refl;
}

pub refined_tree : RefinedIsTree
refined_tree level t is =
    let shape = refined_shape level t is.shape in
    record {
      cells = is.cells;
      shape = shape;
      constant = λ leaf cell is_one inside. (
          let parts = leaf_there (refined level t).shape leaf is_one in
          let none = (or_parts (t.shape (child leaf false)) _ parts.whole).0 in
          constant_below t leaf cell is (shape.keys leaf parts.inside) none inside
          );
    }

pub union_shape : (depth : ℕ) (shape other : Key → Bool) → IsShape depth shape → IsShape depth other → IsShape depth (union shape other)
union_shape depth shape other is is_other = record {
  keys = λ k is_in. elim (or_cases (shape k) (other k) is_in) [
    | inl one ↦ is.keys k one
    | inr two ↦ is_other.keys k two
  ];
  root = or_left (shape root) (other root) is.root;
  parents = λ k right is_in. elim (or_cases (shape (child k right)) (other (child k right)) is_in) [
    | inl one ↦ or_left (shape k) (other k) (is.parents k right one)
    | inr two ↦ or_right (shape k) (other k) (is_other.parents k right two)
  ];
  children = λ k. rw (is.children k, is_other.children k) refl;
}

-- the pair of two elements that are there
paired : {X Y : Type 0} → Option X → Option Y → Option (X × Y)
paired None other = None
paired (Some x) None = None
paired (Some x) (Some y) = Some (x, y)

paired_none : {X Y : Type 0} (one : Option X) → paired one (let none : Option Y = None in none) ≡ None
unfolding paired
paired_none None = refl
paired_none (Some x) = refl

slice_get_zip : {X Y : Type 0} (xs : List X) (ys : List Y) (i : ℕ) → slice_get (zip xs ys) i ≡ paired (slice_get xs i) (slice_get ys i)
unfolding paired
slice_get_zip [] ys i = refl
slice_get_zip (x ∷ xs) [] i = sym (paired_none (slice_get (x ∷ xs) i))
slice_get_zip (x ∷ xs) (y ∷ ys) zero = refl
slice_get_zip (x ∷ xs) (y ∷ ys) (suc i) = slice_get_zip xs ys i

-- where both lists have one value at two places, so has what is made of them
pub same_in_zip :
    {X Y Z : Type 0} (h : X × Y → Z) (xs : List X) (ys : List Y) (i j : ℕ) →
    slice_get xs i ≡ slice_get xs j →
    slice_get ys i ≡ slice_get ys j →
    slice_get (map h (zip xs ys)) i ≡ slice_get (map h (zip xs ys)) j
same_in_zip h xs ys i j one other =
    let same : slice_get (zip xs ys) i ≡ slice_get (zip xs ys) j = (rw (slice_get_zip xs ys i, slice_get_zip xs ys j, one, other) refl) in
    rw (slice_get-map h (zip xs ys) i, slice_get-map h (zip xs ys) j, same) refl

-- what is made of two lists at a place where both have a value
pub value_in_zip :
    {X Y Z : Type 0} (h : X × Y → Z) (xs : List X) (ys : List Y) (i : ℕ) (x : X) (y : Y) →
    slice_get xs i ≡ Some x →
    slice_get ys i ≡ Some y →
    slice_get (map h (zip xs ys)) i ≡ Some (h (x, y))
unfolding paired
value_in_zip h xs ys i x y one other = rw (slice_get-map h (zip xs ys) i, slice_get_zip xs ys i, one, other) refl

-- a tree, at a depth that is its own
pub tree_at : (depth : ℕ) (t : Tree) → depth ≡ t.depth → IsTree t → IsTree (record { depth = depth; cells = t.cells; shape = t.shape })
tree_at depth t same is = subst (λ d. IsTree (record { depth = d; cells = t.cells; shape = t.shape })) (sym same) is

-- two trees put together cell by cell
abbrev together : (ℤ × ℤ → ℤ) → Tree → Tree → Tree
together h f g = record { depth = f.depth; cells = map h (zip f.cells g.cells); shape = union f.shape g.shape }

together_tree : (h : ℤ × ℤ → ℤ) (f g : Tree) → IsTree f → IsTree g → f.depth ≡ g.depth → IsTree (together h f g)
together_tree h f g is is_own same =
    let other : Tree = record { depth = f.depth; cells = g.cells; shape = g.shape } in
    let is_other : IsTree other = tree_at f.depth g same is_own in
    let shape = union_shape f.depth f.shape g.shape is.shape is_other.shape in
    record {
      cells = rw (length-map, length-zip f.cells g.cells, is.cells, is_other.cells) (omega arith);
      shape = shape;
      constant = λ leaf cell is_one inside. (
          let parts = leaf_there (union f.shape g.shape) leaf is_one in
          let none = or_parts (f.shape (child leaf false)) (g.shape (child leaf false)) parts.whole in
          let key = shape.keys leaf parts.inside in
          same_in_zip h f.cells g.cells cell (first_cell f.depth leaf)
          (constant_below f leaf cell is key none.0 inside)
          (constant_below other leaf cell is_other key none.1 inside)
          );
    }

pub weighted_sum_tree : WeightedSumIsTree
weighted_sum_tree a f b g = together_tree _ f g

pub product_tree : ProductIsTree
product_tree f g = together_tree _ f g
