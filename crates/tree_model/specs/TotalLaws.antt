-- What holds of the edges of shapes whose ends have two owners, and of what coarsening erases.
use Rattle.std.specs.Prelude.{◌≡◌, ℕ, zero, suc, ◌+◌, ◌*◌, ◌/◌, ◌%◌, ◌==◌, Bool, true, false, ◌&&◌, not, filter, if◌then◌else◌}
use Rattle.std.specs.List.{sum_by}
use Rattle.tree_key.specs.Keys.{Key, child}
use Rattle.tree_model.specs.Operations.{coarsened}
use Rattle.tree_model.specs.Shapes.{IsShape, keys, key_count, is_leaf, is_interior}
use Rattle.tree_model.specs.Totals.{is_cut, intersection}
use Rattle.tree_model.specs.Trees.{Tree, IsTree}

-- one for a key that has another owner than its parent
abbrev pub cut : (Key → ℕ) → Key → ℕ
cut owner k = if is_cut owner k then 1 else 0

-- those of a key's two children
abbrev pub cuts_below : (Key → ℕ) → Key → ℕ
cuts_below owner k = cut owner (child k false) + cut owner (child k true)

-- those on the way up from a key, on to the first key that is a right child
abbrev pub cuts_from : (Key → ℕ) → ℕ → ℕ → ℕ
cuts_from owner zero at = 0
cuts_from owner (suc level) at = cut owner (record { level = suc level; at = at }) + (if at % 2 == 0 then cuts_from owner level (at / 2) else 0)

abbrev pub cuts_up : (Key → ℕ) → Key → ℕ
cuts_up owner k = cuts_from owner k.level k.at

-- the keys of a shape that have another owner than their parent, counted
abbrev pub cut_count : (Key → ℕ) → ℕ → (Key → Bool) → ℕ
cut_count owner depth shape = key_count depth (λ k. shape k && is_cut owner k)

-- they are found below the keys that have children; or on the ways up from the leaves, which have each key but the root once
abbrev pub CutsBelowInterior : Type 0
CutsBelowInterior = (owner : Key → ℕ) (depth : ℕ) (shape : Key → Bool) → IsShape depth shape → cut_count owner depth shape ≡ sum_by (cuts_below owner) (filter (is_interior shape) (keys depth))

abbrev pub CutsAboveLeaves : Type 0
CutsAboveLeaves = (owner : Key → ℕ) (depth : ℕ) (shape : Key → Bool) → IsShape depth shape → cut_count owner depth shape ≡ sum_by (cuts_up owner) (filter (is_leaf shape) (keys depth))

-- a shape has one key more than twice those that have children
abbrev pub KeysOfShapes : Type 0
KeysOfShapes = (depth : ℕ) (shape : Key → Bool) → IsShape depth shape → key_count depth shape ≡ 2 * key_count depth (is_interior shape) + 1

-- the keys of two shapes are a shape, and those with children are those that have children in both
abbrev pub IntersectionIsShape : Type 0
IntersectionIsShape = (depth : ℕ) (shape other : Key → Bool) → IsShape depth shape → IsShape depth other → IsShape depth (intersection shape other)

abbrev pub CommonInterior : Type 0
CommonInterior =
    (depth : ℕ) (shape other : Key → Bool) →
    filter (is_interior (intersection shape other)) (keys depth) ≡ filter (is_interior other) (filter (is_interior shape) (keys depth))

-- the keys that coarsening erases, counted: those of the tree less those that stay; and so with those of them that have
-- another owner than their parent
abbrev pub ErasedKeys : Type 0
ErasedKeys = (t : Tree) → IsTree t → key_count t.depth (λ k. t.shape k && not ((coarsened t).shape k)) + key_count t.depth (coarsened t).shape ≡ key_count t.depth t.shape

abbrev pub ErasedCuts : Type 0
ErasedCuts =
    (owner : Key → ℕ) (t : Tree) →
    IsTree t →
    key_count t.depth (λ k. (t.shape k && not ((coarsened t).shape k)) && is_cut owner k) + cut_count owner t.depth (coarsened t).shape ≡ cut_count owner t.depth t.shape
