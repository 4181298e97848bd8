-- Lemmas that crates above use: the trees that commands make: a tree is constant below its leaves, and so is what is
-- made of it.
use Rattle.std.proofs.Common.{◌≡◌, ℕ, zero, suc, ◌+◌, ◌-◌, ◌*◌, ◌/◌, ◌^◌, ◌<◌, ◌≤◌, inl, inr, Bool, true, false, cond, ltb, leb, eqb, ne_eqb, Some, refl, sym, ◌∙◌, ap, subst, arith}
use Rattle.std.proofs.lemmas.Bool.{cases_Bool, and_parts, and_from, ltb-true, lt-ltb, leb-true, le-leb}
use Rattle.tree_key.specs.Keys.{Key, root, child, parent, Contains, first_cell}
use Rattle.tree_key.proofs.BoxLemmas.{same_key, cells_from_contains, first_in_box}
use Rattle.tree_key.proofs.FamilyLemmas.{child_of_parent, half_fits}
use Rattle.tree_model.specs.OperationLaws.{ConstantBelow}
use Rattle.tree_model.specs.Shapes.{IsShape, is_key_of, is_leaf}
use Rattle.tree_model.proofs.AncestorLemmas.{ancestor_child, ancestor_self}

-- the numbers of a key of a depth
pub record IsKeyOf (depth : ℕ) (k : Key) : Type 0 where
  pub level : k.level ≤ depth
  pub at : k.at < 2 ^ k.level

pub key_parts : (depth : ℕ) (k : Key) → is_key_of depth k ≡ true → IsKeyOf depth k
key_parts depth k is =
    let tests = and_parts (leb k.level depth) (ltb k.at (2 ^ k.level)) is in
    record { level = leb-true _ _ tests.0; at = ltb-true _ _ tests.1 }

pub key_from_parts : (depth : ℕ) (k : Key) → k.level ≤ depth → k.at < 2 ^ k.level → is_key_of depth k ≡ true
key_from_parts depth k level at = and_from (leb k.level depth) (ltb k.at (2 ^ k.level)) (le-leb _ _ level) (lt-ltb _ _ at)

-- a leaf at a key, or over it
pub record HasLeafOver (shape : Key → Bool) (k : Key) : Type 0 where
  pub leaf : Key
  pub is : is_leaf shape leaf ≡ true
  pub over : Contains leaf k

pub contains_self : (k : Key) → Contains k k
contains_self k = record { level = omega arith; over = ancestor_self k }

contains_child : (leaf k : Key) (right : Bool) → Contains leaf k → Contains leaf (child k right)
contains_child leaf k right contains = record {
  level = omega (arith, contains.level);
  over = ancestor_child k right leaf.level contains.level ∙ contains.over;
}

leaf_here : (shape : Key → Bool) (k : Key) → shape k ≡ true → shape (child k false) ≡ false → HasLeafOver shape k
leaf_here shape k is none = record { leaf = k; is = rw (is, none) refl; over = contains_self k }

pub no_left_child : (depth : ℕ) (shape : Key → Bool) (k : Key) (right : Bool) → IsShape depth shape → shape (child k right) ≡ false → shape (child k false) ≡ false
no_left_child depth shape k true is none = sym (is.children k) ∙ none
no_left_child depth shape k false is none = none

-- a key below the root is a child
pub record IsChild (k : Key) : Type 0 where
  pub above : Key
  pub right : Bool
  pub made : child above right ≡ k

pub child_below_root : (k : Key) → 0 < k.level → IsChild k
child_below_root k deep =
    let p : Key = record { level = k.level - 1; at = k.at / 2 } in
    let below : eqb k.level 0 ≡ false = ne_eqb k.level 0 (λ e. omega arith) in
    let up : parent k ≡ Some p = rw below refl in
    let side = child_of_parent k p up in
    record { above = p; right = side.0; made = side.1 }

-- the leaf over a key, by its level
leaf_at_level : (depth n : ℕ) (shape : Key → Bool) (k : Key) → k.level ≡ n → IsShape depth shape → k.at < 2 ^ k.level → shape (child k false) ≡ false → HasLeafOver shape k
leaf_at_level depth zero shape k level is at none =
    let one : 2 ^ k.level ≡ 1 = (ap (λ m. 2 ^ m) level) in
    let top : root ≡ k = same_key root k (sym level) (omega arith) in
    leaf_here shape k (subst (λ (r : Key). shape r ≡ true) top is.root) none
leaf_at_level depth (suc n) shape k level is at none = elim (cases_Bool (shape k)) [
  | inl here ↦ leaf_here shape k here none
  | inr absent ↦
      let family = child_below_root k (omega arith) in
      let p = family.above in
      let one_up : p.level + 1 ≡ k.level = ap (λ (c : Key). c.level) family.made in
      let places : 2 * p.at + cond family.right 1 0 < 2 ^ (p.level + 1) = subst (λ (c : Key). c.at < 2 ^ c.level) (sym family.made) at in
      let gone : shape (child p family.right) ≡ false = (ap shape family.made ∙ absent) in
      let over = leaf_at_level depth n shape p (omega arith) is (half_fits p.level p.at family.right places) (no_left_child depth shape p family.right is gone) in
      record { leaf = over.leaf; is = over.is; over = subst (λ (c : Key). Contains over.leaf c) family.made (contains_child over.leaf p family.right over.over) }
]

-- a key of the depth without children in a shape is a leaf, or lies below one
pub leaf_above : (depth : ℕ) (shape : Key → Bool) (k : Key) → IsShape depth shape → is_key_of depth k ≡ true → shape (child k false) ≡ false → HasLeafOver shape k
leaf_above depth shape k is key none = leaf_at_level depth k.level shape k refl is (key_parts depth k key).at none

pub constant_below : ConstantBelow
constant_below t k cell is key none inside =
    let over = leaf_above t.depth t.shape k is.shape key none in
    let level = (key_parts t.depth k key).level in
    let inside_leaf = cells_from_contains t.depth over.leaf k level over.over in
    is.constant over.leaf cell over.is (inside_leaf cell inside)
    ∙ sym (is.constant over.leaf (first_cell t.depth k) over.is (inside_leaf (first_cell t.depth k) (first_in_box t.depth k)))
