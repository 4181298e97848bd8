-- What a down unit finds of a tree at its key, where it knows the tree rightly and reads a right cell.
use Rattle.std.proofs.Common.{◌≡◌, ◌+◌, ◌<◌, Bool, true, false, refl, sym, ap, ◌∙◌, arith, ℤ, pos, ◌+ℤ◌, ◌-ℤ◌, ◌*ℤ◌}
use Rattle.std.specs.Prelude.{◌&&◌, ◌==◌, not, if◌then◌else◌, Option, Some, None}
use Rattle.std.specs.Option.{option_map}
use Rattle.std.specs.Int.RustNames.{unsigned_abs, int_rem}
use Rattle.std.proofs.lemmas.Bool.{false_from_ne_true, ne_eqb, and_parts}
use Rattle.std.proofs.lemmas.Int.{ints}
use Rattle.tree_key.specs.Keys.{Key, child}
use Rattle.tree_model.specs.Nodes.{Form, reconstructed_node}
use Rattle.tree_model.specs.Nodes.{node as tree_node, Node as NodeData}
use Rattle.tree_model.specs.Nodes.Form.{Reconstructed, Compressed}
use Rattle.tree_model.specs.Nodes.Node.{Leaf as LeafData, Branch as BranchData, Inner as InnerData, Root as RootData, Bare as BareData, Bad as BadData}
use Rattle.tree_model.specs.Shapes.{is_key_of, is_leaf, is_interior}
use Rattle.tree_model.specs.StoredTrees.{IsWhole, difference_at}
use Rattle.tree_model.specs.Trees.{Tree, IsTree, box_sum, difference}
use Rattle.tree_model.proofs.BoundLemmas.{no_rest}
use Rattle.tree_model.proofs.BoxSumLemmas.{box_sum_children, key_of_tree}
use Rattle.tree_model.proofs.StoredTreeLemmas.{whole_boxes_are_even}
use Rattle.haar_node.specs.declared.Node.{Node}
use Rattle.haar_node.specs.declared.Node.TheVariants as node
use Rattle.haar_node.specs.Node.{node_of}
use Rattle.haar_base.specs.declared.operation.Operation.{Operation}
use Rattle.haar_base.specs.declared.unit.Side.{Side}
use Rattle.haar_base.specs.declared.unit.Side.TheVariants.{Entry, Below}
use Rattle.haar_base.specs.declared.readings.Leaf.{Leaf}
use Rattle.haar_base.specs.declared.readings.Leaf.TheVariants.{Whole, Cut}
use Rattle.haar_base.specs.declared.readings.ChildSides.{ChildSides}
use Rattle.haar_base.specs.Numbers.{divides, halves}
use Rattle.haar_base.specs.Readings.{leaf_of, leaf_at, sums, sums_at, both_entries, both_below, leaf_sides, sides_by, entry}
use Rattle.haar_base.proofs.NumberLemmas.{halves_are}
use Rattle.haar_meaning.specs.Sides.{knows_sums, known_sum, side_of}

-- a cell with the node of a key
pub record CellAt (form : Form) (t : Tree) (k : Key) (cell : Option Node) : Type 0 where
  pub node : Node
  pub is : cell ≡ Some node
  pub stored : node_of node ≡ tree_node form t k

-- there is such a cell where the tree has the key
abbrev pub HasCell : Form → Tree → Key → Option Node → Type 0
HasCell form t k cell = t.shape k ≡ true → CellAt form t k cell

-- the node in code
abbrev pub coded : NodeData → Node
coded (LeafData sum) = node.Leaf sum
coded BranchData = node.Branch
coded (InnerData difference) = node.Inner difference
coded (RootData sum difference) = node.Root sum difference
coded BareData = node.Bare
coded BadData = node.Bad

pub coded_back : (c : Node) → coded (node_of c) ≡ c
coded_back (node.Leaf sum) = refl
coded_back node.Branch = refl
coded_back (node.Inner difference) = refl
coded_back (node.Root sum difference) = refl
coded_back node.Bare = refl
coded_back node.Bad = refl

-- a shape

pub none_below : (t : Tree) (k : Key) (right : Bool) → IsTree t → t.shape k ≡ false → t.shape (child k right) ≡ false
none_below t k right tree none = false_from_ne_true (t.shape (child k right)) (λ there. let in_shape = tree.shape.parents k right there in absurd (cc))

pub child_key : (t : Tree) (k : Key) (right : Bool) → IsTree t → t.shape (child k right) ≡ true → k.level < t.depth
child_key t k right tree there = let key = key_of_tree t (child k right) tree there in let low = key.0 in omega (arith, low)

pub leaf_from : (t : Tree) (k : Key) → t.shape k ≡ true → t.shape (child k false) ≡ false → is_leaf t.shape k ≡ true
leaf_from t k inside whole = λ i. inside i && not (whole i)

pub interior_from : (t : Tree) (k : Key) → t.shape k ≡ true → t.shape (child k false) ≡ true → is_interior t.shape k ≡ true
interior_from t k inside cut = λ i. inside i && cut i

-- the box is a leaf's, or below a leaf, or the key has children
abbrev pub leaf_in : Tree → Key → Leaf
leaf_in t k = if t.shape (child k false) then Cut else Whole (box_sum t k)

leaf_node : (t : Tree) (k : Key) (c : Node) → t.shape k ≡ true → node_of c ≡ reconstructed_node t k → leaf_of (Some c) ≡ leaf_in t k
leaf_node t k c inside stored =
    ap (λ (x : Node). leaf_of (Some x)) (sym (coded_back c) ∙ ap coded stored) ∙ go (t.shape k) (t.shape (child k false)) inside
  where
    go : (inside cut : Bool) → inside ≡ true → leaf_of (Some (coded (if inside && not cut then LeafData (box_sum t k) else BranchData))) ≡ (if cut then Cut else Whole (box_sum t k))
    go true true e = refl
    go true false e = refl
    go false cut e = absurd (cc)

pub side_with : (operation : Operation) (t : Tree) (k : Key) (inside : Bool) → t.shape k ≡ inside → side_of operation t k ≡ (if inside then Entry (known_sum operation t k) else Below (box_sum t k))
side_with operation t k inside is = ap (λ (b : Bool). if b then Entry (known_sum operation t k) else Below (box_sum t k)) is

pub leaf_read : (operation : Operation) (t : Tree) (k : Key) (cell : Option Node) → IsTree t → HasCell Reconstructed t k cell → leaf_at (side_of operation t k) cell ≡ leaf_in t k
leaf_read operation t k cell tree has = go (t.shape k) refl
  where
    go : (inside : Bool) → t.shape k ≡ inside → leaf_at (if inside then Entry (known_sum operation t k) else Below (box_sum t k)) cell ≡ leaf_in t k
    go true is = let h = has is in ap leaf_of h.is ∙ leaf_node t k h.node is h.stored
    go false is = sym (ap (λ (b : Bool). if b then Cut else Whole (box_sum t k)) (none_below t k false tree is))

-- the sum over a box and its difference, which a leaf doesn't have; the sum is that of the root's entry, or is known

sums_node : (root : Bool) (known : ℤ) (t : Tree) (k : Key) (c : Node) → (k.level == 0) ≡ root → t.shape k ≡ true → node_of c ≡ tree_node Compressed t k
    → sums_at root (Entry known) (Some c) ≡ Some (sums (if root then box_sum t k else known) (difference_at t k))
sums_node root known t k c is inside stored =
    ap (λ (x : Node). sums_at root (Entry known) (Some x)) (sym (coded_back c) ∙ ap coded stored ∙ at_root) ∙ go root (t.shape k) (t.shape (child k false)) inside
  where
    at_root : coded (tree_node Compressed t k) ≡ coded (if root then RootData (box_sum t k) (if is_leaf t.shape k then None else Some (difference t k)) else (if is_leaf t.shape k then BareData else InnerData (difference t k)))
    at_root = ap (λ (b : Bool). coded (if b then RootData (box_sum t k) (if is_leaf t.shape k then None else Some (difference t k)) else (if is_leaf t.shape k then BareData else InnerData (difference t k)))) is

    go : (root inside cut : Bool) → inside ≡ true
        → sums_at root (Entry known) (Some (coded (if root then RootData (box_sum t k) (if inside && not cut then None else Some (difference t k)) else (if inside && not cut then BareData else InnerData (difference t k)))))
        ≡ Some (sums (if root then box_sum t k else known) (if inside && cut then Some (difference t k) else None))
    go true true true e = refl
    go true true false e = refl
    go false true true e = refl
    go false true false e = refl
    go root false cut e = absurd (cc)

-- by units that know sums
pub known_at : (operation : Operation) (t : Tree) (k : Key) → knows_sums operation ≡ true → (if k.level == 0 then box_sum t k else known_sum operation t k) ≡ box_sum t k
known_at operation t k knows = ap (λ (b : Bool). if k.level == 0 then box_sum t k else (if b && not (k.level == 0) then box_sum t k else pos 0)) knows ∙ go (k.level == 0)
  where
    go : (root : Bool) → (if root then box_sum t k else (if true && not root then box_sum t k else pos 0)) ≡ box_sum t k
    go true = refl
    go false = refl

below_sums : (root : Bool) (sum : ℤ) (cell : Option Node) → sums_at root (Below sum) cell ≡ Some (sums sum None)
below_sums true sum cell = refl
below_sums false sum cell = refl

pub no_difference : (t : Tree) (k : Key) → t.shape k ≡ false → difference_at t k ≡ None
no_difference t k none = ap (λ (b : Bool). if b && t.shape (child k false) then Some (difference t k) else None) none

pub sums_read : (operation : Operation) (t : Tree) (k : Key) (cell : Option Node) → knows_sums operation ≡ true → HasCell Compressed t k cell
    → sums_at (k.level == 0) (side_of operation t k) cell ≡ Some (sums (box_sum t k) (difference_at t k))
sums_read operation t k cell knows has = go (t.shape k) refl
  where
    go : (inside : Bool) → t.shape k ≡ inside → sums_at (k.level == 0) (if inside then Entry (known_sum operation t k) else Below (box_sum t k)) cell ≡ Some (sums (box_sum t k) (difference_at t k))
    go true is = let h = has is in
        ap (sums_at (k.level == 0) (Entry (known_sum operation t k))) h.is
        ∙ sums_node (k.level == 0) (known_sum operation t k) t k h.node refl is h.stored
        ∙ ap (λ (s : ℤ). Some (sums s (difference_at t k))) (known_at operation t k knows)
    go false is = below_sums (k.level == 0) (box_sum t k) cell ∙ ap (λ (d : Option ℤ). Some (sums (box_sum t k) d)) (sym (no_difference t k is))

-- and by units that don't
pub unknown : (operation : Operation) (t : Tree) (k : Key) → knows_sums operation ≡ false → known_sum operation t k ≡ pos 0
unknown operation t k not_known = ap (λ (b : Bool). if b && not (k.level == 0) then box_sum t k else pos 0) not_known

abbrev pub root_sum : Tree → Key → ℤ
root_sum t k = if k.level == 0 then box_sum t k else pos 0

pub root_sums_read : (operation : Operation) (t : Tree) (k : Key) (cell : Option Node) → knows_sums operation ≡ false → t.shape k ≡ true → HasCell Compressed t k cell
    → sums_at (k.level == 0) (side_of operation t k) cell ≡ Some (sums (root_sum t k) (difference_at t k))
root_sums_read operation t k cell not_known is has = let h = has is in
    ap (λ (s : Side). sums_at (k.level == 0) s cell) (side_with operation t k true is)
    ∙ ap (sums_at (k.level == 0) (Entry (known_sum operation t k))) h.is
    ∙ sums_node (k.level == 0) (known_sum operation t k) t k h.node refl is h.stored
    ∙ ap (λ (s : ℤ). Some (sums (if k.level == 0 then box_sum t k else s) (difference_at t k))) (unknown operation t k not_known)

-- halves

halves_of : (l r s d : ℤ) → s ≡ l +ℤ r → d ≡ l -ℤ r → halves s d ≡ Some (l, r)
halves_of l r s d sum difference =
    let twice : s +ℤ d ≡ pos 2 *ℤ l = omega (arith, ints, sum, difference) in
    let even : divides 2 (s +ℤ d) ≡ true = ap (λ (z : ℤ). unsigned_abs (int_rem z (pos 2)) == 0) twice ∙ ap (λ (z : ℤ). unsigned_abs z == 0) (no_rest 2 l) in
    sym (halves_are s d l r even (omega (arith, ints, sum, difference)) (omega (arith, ints, sum, difference)))

pub halves_of_box : (t : Tree) (k : Key) → k.level < t.depth → halves (box_sum t k) (difference t k) ≡ Some (box_sum t (child k false), box_sum t (child k true))
halves_of_box t k above = halves_of (box_sum t (child k false)) (box_sum t (child k true)) (box_sum t k) (difference t k) (box_sum_children t k above) refl

pub halves_of_whole : (t : Tree) (k : Key) → IsTree t → IsWhole t k → k.level < t.depth → halves (box_sum t k) (pos 0) ≡ Some (box_sum t (child k false), box_sum t (child k true))
halves_of_whole t k tree whole above = ap (halves (box_sum t k)) (sym (whole_boxes_are_even t k tree whole above)) ∙ halves_of_box t k above

-- what the units of the children know

abbrev pub child_sides : Operation → Tree → Key → ChildSides
child_sides operation t k = record { left = side_of operation t (child k false); right = side_of operation t (child k true) }

sides_with : (operation : Operation) (t : Tree) (k : Key) (cut : Bool) → IsTree t → t.shape (child k false) ≡ cut
    → child_sides operation t k ≡ record {
      left = if cut then Entry (known_sum operation t (child k false)) else Below (box_sum t (child k false));
      right = if cut then Entry (known_sum operation t (child k true)) else Below (box_sum t (child k true));
    }
sides_with operation t k cut tree is = λ i. record { left = side_with operation t (child k false) cut is i; right = side_with operation t (child k true) cut (tree.shape.children k ∙ is) i }

pub sides_below : (operation : Operation) (t : Tree) (k : Key) → IsTree t → t.shape (child k false) ≡ false → child_sides operation t k ≡ both_below (box_sum t (child k false), box_sum t (child k true))
sides_below operation t k tree whole = sides_with operation t k false tree whole

pub sides_unknown : (operation : Operation) (t : Tree) (k : Key) → IsTree t → knows_sums operation ≡ false → t.shape (child k false) ≡ true → child_sides operation t k ≡ record { left = entry; right = entry }
sides_unknown operation t k tree not_known cut =
    sides_with operation t k true tree cut ∙ (λ i. record { left = Entry (unknown operation t (child k false) not_known i); right = Entry (unknown operation t (child k true) not_known i) })

known_child : (operation : Operation) (t : Tree) (k : Key) (right : Bool) → knows_sums operation ≡ true → known_sum operation t (child k right) ≡ box_sum t (child k right)
known_child operation t k right knows =
    let below : (k.level + 1 == 0) ≡ false = ne_eqb (k.level + 1) 0 (λ e. omega (arith, e)) in
    (λ i. if knows i && not (below i) then box_sum t (child k right) else pos 0)

sides_known : (operation : Operation) (t : Tree) (k : Key) → IsTree t → knows_sums operation ≡ true → t.shape (child k false) ≡ true
    → child_sides operation t k ≡ both_entries (box_sum t (child k false), box_sum t (child k true))
sides_known operation t k tree knows cut =
    sides_with operation t k true tree cut ∙ (λ i. record { left = Entry (known_child operation t k false knows i); right = Entry (known_child operation t k true knows i) })

-- below a key of a reconstructed tree
pub leaf_children : (operation : Operation) (t : Tree) (k : Key) → IsTree t → knows_sums operation ≡ false → is_key_of t.depth k ≡ true → k.level < t.depth
    → leaf_sides (leaf_in t k) ≡ Some (child_sides operation t k)
leaf_children operation t k tree not_known key above = go (t.shape (child k false)) refl
  where
    go : (cut : Bool) → t.shape (child k false) ≡ cut → leaf_sides (if cut then Cut else Whole (box_sum t k)) ≡ Some (child_sides operation t k)
    go true is = ap Some (sym (sides_unknown operation t k tree not_known is))
    go false is = ap (option_map both_below) (halves_of_whole t k tree (record { key = key; uncut = is }) above) ∙ ap Some (sym (sides_below operation t k tree is))

-- below a key of a compressed tree
pub sums_children : (operation : Operation) (t : Tree) (k : Key) → IsTree t → knows_sums operation ≡ true → is_key_of t.depth k ≡ true → k.level < t.depth
    → sides_by (box_sum t k) (difference_at t k) ≡ Some (child_sides operation t k)
sums_children operation t k tree knows key above = go (t.shape (child k false)) refl
  where
    go : (cut : Bool) → t.shape (child k false) ≡ cut → sides_by (box_sum t k) (difference_at t k) ≡ Some (child_sides operation t k)
    go true is =
        let inside = tree.shape.parents k false is in
        ap (λ (b : Bool). sides_by (box_sum t k) (if b then Some (difference t k) else None)) (interior_from t k inside is)
        ∙ ap (option_map both_entries) (halves_of_box t k above)
        ∙ ap Some (sym (sides_known operation t k tree knows is))
    go false is =
        let other : is_interior t.shape k ≡ false = false_from_ne_true (is_interior t.shape k) (λ both. let cut = (and_parts (t.shape k) (t.shape (child k false)) both).1 in absurd (cc)) in
        ap (λ (b : Bool). sides_by (box_sum t k) (if b then Some (difference t k) else None)) other
        ∙ ap (option_map both_below) (halves_of_whole t k tree (record { key = key; uncut = is }) above)
        ∙ ap Some (sym (sides_below operation t k tree is))
