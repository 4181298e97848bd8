-- What holds of all keys, boxes and places. A law that doesn't ask for `IsKey` holds above level 16 too.
use Rattle.std.specs.Prelude.{◌≡◌, ℕ, ◌+◌, ◌*◌, ◌^◌, ◌<◌, ◌≤◌, ◌⊎◌, ◌↔◌, Bool, true, false, Some}
use Rattle.std.specs.declared.cmp.Ordering.TheVariants.{Less, Equal}
use Rattle.tree_key.specs.Keys.{Key, IsKey, child, parent, ancestor, Contains, place_of, width, first_cell, InBox, key_over, key_cmp}

-- one key contains another exactly where each cell of the other's box is a cell of its own
abbrev pub BoxesNest : Type 0
BoxesNest =
    (depth : ℕ) (k other : Key) →
    k.level ≤ depth →
    other.level ≤ depth →
    Contains k other ↔ ((cell : ℕ) → InBox depth other cell → InBox depth k cell)

-- the left child's box is the first half of the key's, and the right child's is the second half
pub record AreHalves (depth : ℕ) (k : Key) : Type 0 where
  pub half : (side : Bool) → width depth k ≡ 2 * width depth (child k side)
  pub left : first_cell depth (child k false) ≡ first_cell depth k
  pub right : first_cell depth (child k true) ≡ first_cell depth k + width depth (child k true)
  pub cells : (cell : ℕ) → InBox depth k cell ↔ (InBox depth (child k false) cell ⊎ InBox depth (child k true) cell)
  pub apart : (cell : ℕ) → InBox depth (child k false) cell → InBox depth (child k true) cell → ⊥

abbrev pub ChildrenHalveTheBox : Type 0
ChildrenHalveTheBox = (depth : ℕ) (k : Key) → k.level < depth → AreHalves depth k

-- a child's parent is the key that it is a child of
abbrev pub ParentOfChild : Type 0
ParentOfChild = (k : Key) (side : Bool) → parent (child k side) ≡ Some k

-- a key with a parent is one of the parent's children
abbrev pub ChildOfParent : Type 0
ChildOfParent = (k p : Key) → parent k ≡ Some p → (side : Bool) × (child p side ≡ k)

-- the ancestor of a child on the level above it is its parent
abbrev pub AncestorOfChild : Type 0
AncestorOfChild = (k : Key) (side : Bool) → ancestor (child k side) k.level ≡ k

-- an ancestor's ancestor is the key's own
abbrev pub AncestorOfAncestor : Type 0
AncestorOfAncestor = (k : Key) (m j : ℕ) → j ≤ m → m ≤ k.level → ancestor (ancestor k m) j ≡ ancestor k j

-- children, parents and ancestors of keys are keys
abbrev pub ChildIsKey : Type 0
ChildIsKey = (k : Key) (side : Bool) → IsKey k → k.level < 16 → IsKey (child k side)

abbrev pub ParentIsKey : Type 0
ParentIsKey = (k p : Key) → IsKey k → parent k ≡ Some p → IsKey p

abbrev pub AncestorIsKey : Type 0
AncestorIsKey = (k : Key) (level : ℕ) → IsKey k → level ≤ k.level → IsKey (ancestor k level)

-- keys of one place are one key
abbrev pub PlacesDiffer : Type 0
PlacesDiffer = (a b : Key) → IsKey a → IsKey b → place_of a ≡ place_of b → a ≡ b

-- the places of keys go from 1 to below two to the 17
abbrev pub PlacesAreInRange : Type 0
PlacesAreInRange = (k : Key) → IsKey k → (1 ≤ place_of k) × (place_of k < 2 ^ 17)

-- the order of places is the order of keys
abbrev pub PlacesAreInOrder : Type 0
PlacesAreInOrder = (a b : Key) → IsKey a → IsKey b → (key_cmp a b ≡ Less) ↔ (place_of a < place_of b)

-- keys that the order doesn't tell apart are one key
abbrev pub OrderTellsApart : Type 0
OrderTellsApart = (a b : Key) → key_cmp a b ≡ Equal → a ≡ b

-- the key is the only one of its level whose box has the cell
pub record IsOnlyOver (depth : ℕ) (k : Key) (cell : ℕ) : Type 0 where
  pub key : k.level ≤ 16 → IsKey k
  pub has : InBox depth k cell
  pub only : (other : Key) → other.level ≡ k.level → InBox depth other cell → other ≡ k

-- on each level one key has the cell in its box
abbrev pub OneKeyOnEachLevel : Type 0
OneKeyOnEachLevel =
    (depth level cell : ℕ) → level ≤ depth → cell < 2 ^ depth → IsOnlyOver depth (key_over depth level cell) cell
