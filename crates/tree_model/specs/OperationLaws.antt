-- What holds of the commands' results, as one statement each.
use Rattle.std.specs.Prelude.{◌≡◌, ℕ, ◌*◌, ◌<◌, ◌↔◌, true, false, length, ℤ, pos, ◌+ℤ◌, ◌*ℤ◌}
use Rattle.std.specs.Int.RustNames.{unsigned_abs}
use Rattle.std.specs.List.{slice_get}
use Rattle.tree_key.specs.Keys.{Key, child, width, first_cell, InBox}
use Rattle.tree_model.specs.Functions.{max_value}
use Rattle.tree_model.specs.Operations.{refined, union, weighted_sum, product, overflows}
use Rattle.tree_model.specs.Shapes.{is_key_of, is_leaf}
use Rattle.tree_model.specs.Trees.{Tree, IsTree, box_sum, difference}

-- a tree is constant on the box of each key that has no children in its shape: the key is a leaf, or lies below one
abbrev pub ConstantBelow : Type 0
ConstantBelow =
    (t : Tree) (k : Key) (cell : ℕ) →
    IsTree t →
    is_key_of t.depth k ≡ true →
    t.shape (child k false) ≡ false →
    InBox t.depth k cell →
    slice_get t.cells cell ≡ slice_get t.cells (first_cell t.depth k)

-- a tree with all keys down to a level is a tree
abbrev pub RefinedIsTree : Type 0
RefinedIsTree = (level : ℕ) (t : Tree) → IsTree t → IsTree (refined level t)

-- a weighted sum of two trees of one depth is a tree
abbrev pub WeightedSumIsTree : Type 0
WeightedSumIsTree = (a : ℤ) (f : Tree) (b : ℤ) (g : Tree) → IsTree f → IsTree g → f.depth ≡ g.depth → IsTree (weighted_sum a f b g)

-- a product of two trees of one depth is a tree
abbrev pub ProductIsTree : Type 0
ProductIsTree = (f g : Tree) → IsTree f → IsTree g → f.depth ≡ g.depth → IsTree (product f g)

-- of two trees of one depth, with as many values each, the sums over boxes and the differences are added with the weights
pub record SumsAreLinear : Type 0 where
  pub sums :
      (a : ℤ) (f : Tree) (b : ℤ) (g : Tree) (k : Key) →
      length f.cells ≡ length g.cells →
      f.depth ≡ g.depth →
      box_sum (weighted_sum a f b g) k ≡ a *ℤ box_sum f k +ℤ b *ℤ box_sum g k
  pub differences :
      (a : ℤ) (f : Tree) (b : ℤ) (g : Tree) (k : Key) →
      length f.cells ≡ length g.cells →
      f.depth ≡ g.depth →
      difference (weighted_sum a f b g) k ≡ a *ℤ difference f k +ℤ b *ℤ difference g k

-- on a leaf of the product of two trees of one depth, its sum times the width is the product of their sums
abbrev pub ProductOnLeaves : Type 0
ProductOnLeaves =
    (f g : Tree) (leaf : Key) →
    IsTree f →
    IsTree g →
    f.depth ≡ g.depth →
    is_leaf (union f.shape g.shape) leaf ≡ true →
    box_sum (product f g) leaf *ℤ pos (width f.depth leaf) ≡ box_sum f leaf *ℤ box_sum g leaf

-- the key is a leaf, and its sum is above what so many cells may have, in absolute value
pub record IsOverLeaf (t : Tree) (k : Key) : Type 0 where
  pub leaf : is_leaf t.shape k ≡ true
  pub over : width t.depth k * max_value < unsigned_abs (box_sum t k)

-- a tree overflows exactly where one of its leaves does
abbrev pub OverflowOnLeaves : Type 0
OverflowOnLeaves = (t : Tree) → IsTree t → (overflows t ≡ true) ↔ ((k : Key) × IsOverLeaf t k)
