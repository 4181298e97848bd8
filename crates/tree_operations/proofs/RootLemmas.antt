-- Whole trees: what a map has that was filled from the root on.
use Rattle.std.proofs.Common.{◌≡◌, ℕ, ◌-◌, ◌≤◌, [], Bool, true, false, cond, Option, Some, None, refl, sym, ◌∙◌, ap, arith, inl, inr, ℤ}
use Rattle.std.specs.BTreeMap.{BTreeMap, is_at}
use Rattle.std.specs.Map.{lookup}
use Rattle.std.proofs.lemmas.Bool.{cases_Bool, or_left, false_from_ne_true, false≢true}
use Rattle.std.proofs.Math.Nat.{div-eq_of_lt}
use Rattle.tree_key.specs.Keys.{Key, root, key_cmp}
use Rattle.tree_model.specs.Functions.{fits, max_depth}
use Rattle.tree_model.specs.StoredTrees.{leaf_sum_at, difference_at}
use Rattle.tree_model.specs.Operations.{overflows, refined, product}
use Rattle.tree_model.specs.Project.{Projection, projected}
use Rattle.tree_model.specs.Rows.{leaf_sums}
use Rattle.tree_model.specs.Shapes.{IsShape, is_leaf}
use Rattle.tree_model.specs.Trees.{Tree, IsTree, HasValues}
use Rattle.tree_model.proofs.BelowLeafLemmas.{key_parts}
use Rattle.tree_model.proofs.StoredTreeLemmas.{leaves_at_keys, leaves_within, projections_with_values, refined_have_values}
use Rattle.tree_model.proofs.CombinedTreeLemmas.{refined_tree, product_tree}
use Rattle.tree_model.proofs.ProjectedTreeLemmas.{projected_tree}
use Rattle.tree_operations.specs.LeafValues.{LeavesHaveValues}
use Rattle.tree_operations.specs.Filling.{under, over, within, Fills}
use Rattle.tree_operations.specs.StoredTrees.{IsReconstructed}
use Rattle.tree_operations.specs.Numbers.{number_at, IsSound}
use Rattle.tree_operations.specs.Multiplied.{IsKeyToMultiply}
use Rattle.tree_operations.specs.WholeSums.{IsKeyToRefine}
use Rattle.tree_operations.proofs.SubtreeLemmas.{under_from}

-- an empty map has no number
no_number : (numbers : BTreeMap Key ℤ) (k : Key) → numbers.entries ≡ [] → number_at numbers k ≡ None
no_number numbers k none = ap (λ es. lookup (is_at (key_cmp k)) es) none

over_nothing : (number : Option ℤ) → over number None ≡ number
over_nothing None = refl
over_nothing (Some z) = refl

all_or_none : (inside : Bool) (number : Option ℤ) → (inside ≡ false → number ≡ None) → cond inside number None ≡ number
all_or_none true number none = refl
all_or_none false number none = sym (none refl)

-- a map that was empty and was filled from the root on has just the numbers
pub filled : (numbers : Key → Option ℤ) (old new : BTreeMap Key ℤ) → old.entries ≡ [] → ((k : Key) → under root k ≡ false → numbers k ≡ None) → Fills root numbers old new → (k : Key) → number_at new k ≡ numbers k
filled numbers old new empty none fills k =
    fills.at k
    ∙ ap (over (within root numbers k)) (no_number old k empty)
    ∙ over_nothing (within root numbers k)
    ∙ all_or_none (under root k) (numbers k) (none k)

-- the keys of a shape lie at the root or below it
pub shape_under_root : (depth : ℕ) (shape : Key → Bool) (k : Key) → IsShape depth shape → shape k ≡ true → under root k ≡ true
shape_under_root depth shape k is inside =
    let parts = key_parts depth k (is.keys k inside) in
    let whole : k.level - 0 ≡ k.level = omega arith in
    under_from root k (record { level = omega arith; at = rw whole (div-eq_of_lt parts.at) })

pub nothing_outside : (depth : ℕ) (shape : Key → Bool) (k : Key) → IsShape depth shape → under root k ≡ false → shape k ≡ false
nothing_outside depth shape k is outside = false_from_ne_true (shape k) (λ inside. false≢true (sym outside ∙ shape_under_root depth shape k is inside))

pub no_sum_outside : (t : Tree) (k : Key) → IsTree t → under root k ≡ false → leaf_sum_at t k ≡ None
no_sum_outside t k tree outside = rw (nothing_outside t.depth t.shape k tree.shape outside) refl

pub no_difference_outside : (t : Tree) (k : Key) → IsTree t → under root k ≡ false → difference_at t k ≡ None
no_difference_outside t k tree outside = rw (nothing_outside t.depth t.shape k tree.shape outside) refl

-- a leaf is a key of its shape
leaf_inside : (shape : Key → Bool) (k : Key) → is_leaf shape k ≡ true → shape k ≡ true
leaf_inside shape k leaf = elim (cases_Bool (shape k)) [ inl inside ↦ inside | inr outside ↦ absurd (false≢true (rw outside at leaf)) ]

-- where the leaves from the root on are within their limits, the tree has values, and doesn't overflow
pub values_from_leaves : (t : Tree) → IsTree t → LeavesHaveValues t root → HasValues t × (overflows t ≡ false)
values_from_leaves t tree within = leaves_within t tree (λ k leaf. within.at k (shape_under_root t.depth t.shape k tree.shape (leaf_inside t.shape k leaf)) leaf)

-- a projection that is stored by its leaves in key order
pub keeps_projection : (depth : ℕ) (p : Projection) (leaves : BTreeMap Key ℤ) → depth ≤ max_depth → fits depth p.function ≡ true → leaves.entries ≡ leaf_sums (projected depth p) → IsReconstructed (projected depth p) depth leaves
keeps_projection depth p leaves deep fit entries = record {
  keeps = record {
    sound = record { tree = projected_tree depth p; values = projections_with_values depth p fit; depth = deep };
    at = λ k. leaves_at_keys (projected depth p) leaves k (projected_tree depth p) entries;
  };
  deep = refl;
}

-- refining, from the root on
pub root_to_refine : (t : Tree) (depth : ℕ) (leaves : BTreeMap Key ℤ) (level : ℕ) → IsReconstructed t depth leaves → level ≤ depth → IsKeyToRefine t leaves level root None
root_to_refine t depth leaves level is within = record {
  keeps = is.keeps;
  shallow = rw is.deep within;
  inside = (refined_tree level t is.keeps.sound.tree).shape.root;
  passed = rw is.keeps.sound.tree.shape.root refl;
}

pub refined_is_sound : (level : ℕ) (t : Tree) → IsSound t → IsSound (refined level t)
refined_is_sound level t sound = record { tree = refined_tree level t sound.tree; values = refined_have_values level t sound.values; depth = sound.depth }

-- multiplying, from the root on
pub root_to_multiply :
    (f g : Tree) (depth : ℕ) (left right : BTreeMap Key ℤ) →
    IsReconstructed f depth left →
    IsReconstructed g depth right →
    IsKeyToMultiply f g left right depth root None None
root_to_multiply f g depth left right first second = record {
  keeps_left = first.keeps;
  keeps_right = second.keeps;
  depth_left = first.deep;
  depth_right = second.deep;
  inside = or_left (f.shape root) (g.shape root) first.keeps.sound.tree.shape.root;
  passed_left = rw first.keeps.sound.tree.shape.root refl;
  passed_right = rw second.keeps.sound.tree.shape.root refl;
}

pub product_is_sound :
    (f g : Tree) (depth : ℕ) (left right : BTreeMap Key ℤ) →
    IsReconstructed f depth left →
    IsReconstructed g depth right →
    LeavesHaveValues (product f g) root →
    IsSound (product f g)
product_is_sound f g depth left right first second within =
    let tree = product_tree f g first.keeps.sound.tree second.keeps.sound.tree (first.deep ∙ sym second.deep) in
    record { tree = tree; values = (values_from_leaves (product f g) tree within).0; depth = first.keeps.sound.depth }
