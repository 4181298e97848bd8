-- What holds of boxes on which all values are the same, of coarsened trees, and of the number of a tree's keys.
use Rattle.std.specs.Prelude.{◌≡◌, ◌+◌, ◌*◌, ◌<◌, Bool, true, false, not, ◌&&◌, length}
use Rattle.std.specs.Ordering.{int_eq}
use Rattle.tree_key.specs.Keys.{Key, child}
use Rattle.tree_model.specs.OperationTexts.{interior_keys}
use Rattle.tree_model.specs.Operations.{coarsened}
use Rattle.tree_model.specs.Shapes.{is_key_of, key_count, is_leaf}
use Rattle.tree_model.specs.StoredTrees.{IsWhole}
use Rattle.tree_model.specs.Texts.{leaves}
use Rattle.tree_model.specs.Trees.{Tree, IsTree, HasValues, is_constant, box_sum}

-- all values are the same on a box that the tree doesn't cut, a leaf's or one below it
abbrev pub WholeBoxesAreConstant : Type 0
WholeBoxesAreConstant = (t : Tree) (k : Key) → IsTree t → IsWhole t k → is_constant t k ≡ true

-- and on another box exactly where they are on both halves, and the halves have one sum
abbrev pub ConstantFromHalves : Type 0
ConstantFromHalves =
    (t : Tree) (k : Key) →
    IsTree t →
    is_key_of t.depth k ≡ true →
    k.level < t.depth →
    is_constant t k ≡ (is_constant t (child k false) && (is_constant t (child k true) && int_eq (box_sum t (child k false)) (box_sum t (child k true))))

-- a coarsened tree is a tree
abbrev pub CoarsenedIsTree : Type 0
CoarsenedIsTree = (t : Tree) → IsTree t → IsTree (coarsened t)

-- it has values that a cell may have, where the tree has
abbrev pub CoarsenedHaveValues : Type 0
CoarsenedHaveValues = (t : Tree) → HasValues t → HasValues (coarsened t)

-- its children are those of the keys on whose box the values aren't all the same
abbrev pub CoarsenedChildren : Type 0
CoarsenedChildren = (t : Tree) (k : Key) (right : Bool) → is_key_of t.depth k ≡ true → k.level < t.depth → (coarsened t).shape (child k right) ≡ not (is_constant t k)

-- its leaves are those of its keys on whose box the values are all the same
abbrev pub CoarsenedLeaves : Type 0
CoarsenedLeaves = (t : Tree) (k : Key) → IsTree t → is_leaf (coarsened t).shape k ≡ ((coarsened t).shape k && is_constant t k)

-- no tree with these values has fewer keys: each has all of them
abbrev pub CoarsenedIsLeast : Type 0
CoarsenedIsLeast = (t other : Tree) (k : Key) → IsTree other → other.depth ≡ t.depth → other.cells ≡ t.cells → (coarsened t).shape k ≡ true → other.shape k ≡ true

-- a tree has one key more than twice its keys with children, and one fewer than twice its leaves
abbrev pub KeysFromInterior : Type 0
KeysFromInterior = (t : Tree) → IsTree t → key_count t.depth t.shape ≡ 2 * length (interior_keys t) + 1

abbrev pub KeysFromLeaves : Type 0
KeysFromLeaves = (t : Tree) → IsTree t → key_count t.depth t.shape + 1 ≡ 2 * length (leaves t)
