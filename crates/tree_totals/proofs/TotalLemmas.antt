-- What a command comes to, from the numbers that are counted of its shapes.
use Rattle.std.proofs.Common.{◌≡◌, ℕ, ◌+◌, ◌-◌, ◌*◌, ◌≤◌, List, [], ◌∷◌, length, filter, Bool, false, refl, ap₂, arith}
use Rattle.tree_key.specs.Keys.{Key}
use Rattle.tree_model.specs.Operations.{coarsened}
use Rattle.tree_model.specs.Shapes.{IsShape, keys}
use Rattle.tree_model.specs.Totals.{Distribution, Total, over, over_coarsened, visits_total}
use Rattle.tree_model.specs.Trees.{IsTree, Tree}
use Rattle.tree_model.proofs.CoarsenedTreeLemmas.{coarsened_tree}
use Rattle.tree_model.proofs.CutLemmas.{erased_cuts, erased_keys, keys_of_shapes}
use Rattle.tree_totals.specs.Counts.{Counts}
use Rattle.tree_totals.specs.declared.shape_count.ShapeCount.{ShapeCount}

none_of : (ks : List Key) → length (filter (λ k. false) ks) ≡ 0
none_of [] = refl
none_of (k ∷ ks) = none_of ks

same_total : (m n t u : ℕ) → m ≡ n → t ≡ u → ◌≡◌ {A = Total} (record { messages = m; tasks = t }) (record { messages = n; tasks = u })
same_total m n t u messages tasks = ap₂ (λ x y. record { messages = x; tasks = y }) messages tasks

pub visits_are : (d : Distribution) (depth : ℕ) (shape : Key → Bool) (c : ShapeCount) → IsShape depth shape → Counts d.owner depth shape c
    → ◌≡◌ {A = Total} (record { messages = 2 * c.cuts; tasks = 3 * c.interior + 1 }) (visits_total d depth (over shape))
visits_are d depth shape c is counts =
    let none = none_of (keys depth) in
    let all = keys_of_shapes depth shape is in
    same_total _ _ _ _ (omega (arith, counts.cuts, none)) (omega (arith, counts.interior, all, none))

-- no more keys are counted of the coarsened tree
pub fewer : (d : Distribution) (t : Tree) (before after : ShapeCount) → IsTree t → Counts d.owner t.depth t.shape before → Counts d.owner t.depth (coarsened t).shape after
    → (after.interior ≤ before.interior) × (after.cuts ≤ before.cuts)
fewer d t before after tree old new =
    let whole = keys_of_shapes t.depth t.shape tree.shape in
    let part = keys_of_shapes t.depth (coarsened t).shape (coarsened_tree t tree).shape in
    (omega (arith, erased_keys t tree, whole, part, old.interior, new.interior), omega (arith, erased_cuts d.owner t tree, old.cuts, new.cuts))

pub coarsening_is : (d : Distribution) (t : Tree) (before after : ShapeCount) → IsTree t → Counts d.owner t.depth t.shape before → Counts d.owner t.depth (coarsened t).shape after
    → ◌≡◌ {A = Total}
    (record { messages = 2 * before.cuts + (before.cuts - after.cuts); tasks = 3 * before.interior + 1 + 2 * (before.interior - after.interior) })
    (visits_total d t.depth (over_coarsened t))
coarsening_is d t before after tree old new =
    let whole = keys_of_shapes t.depth t.shape tree.shape in
    let part = keys_of_shapes t.depth (coarsened t).shape (coarsened_tree t tree).shape in
    same_total _ _ _ _ (omega (arith, erased_cuts d.owner t tree, old.cuts, new.cuts))
    (omega (arith, erased_keys t tree, whole, part, old.interior, new.interior))
