-- Units of `coarsen` decide rightly.
use Rattle.std.proofs.Common.{◌≡◌, ⊎_elim, ℕ, ◌<◌, ◌≤◌, ◌^◌, Bool, true, false, refl, sym, ap, ◌∙◌, subst, arith, ℤ, ◌+ℤ◌, ◌-ℤ◌}
use Rattle.std.specs.Prelude.{◌&&◌, not, if◌then◌else◌, Option, Some, None, IfSome}
use Rattle.std.specs.Int.RustNames.{unsigned_abs}
use Rattle.std.proofs.lemmas.Bool.{eqb-true, eq-eqb, lt-ltb, le-leb}
use Rattle.std.proofs.lemmas.Int.{ints}
use Rattle.tree_key.specs.Keys.{Key, child}
use Rattle.tree_key.proofs.FamilyLemmas.{child_fits}
use Rattle.tree_model.specs.Nodes.Form.{Reconstructed}
use Rattle.tree_model.specs.Nodes.Node.{Leaf as LeafData, Branch as BranchData}
use Rattle.tree_model.specs.Operations.{coarsened}
use Rattle.tree_model.specs.Shapes.{is_key_of}
use Rattle.tree_model.specs.Totals.{Visits, over_coarsened}
use Rattle.tree_model.specs.Trees.{Tree, IsTree, box_sum, is_constant}
use Rattle.tree_model.specs.Versions.{Version, tree_in}
use Rattle.tree_model.proofs.BoundLemmas.{box_sum_within}
use Rattle.tree_model.proofs.BoxSumLemmas.{box_sum_children}
use Rattle.haar_node.specs.declared.Node.TheVariants as node
use Rattle.haar_units.specs.ModelJobs.{keys_at}
use Rattle.haar_base.specs.declared.operation.Operation.{Operation}
use Rattle.haar_base.specs.declared.operation.Operation.TheVariants.{Coarsen}
use Rattle.haar_base.specs.declared.value.Value.{Value}
use Rattle.haar_base.specs.declared.value.Value.TheVariants.{Done, Sum}
use Rattle.haar_base.specs.declared.decisions.Visit.TheVariants as visits
use Rattle.haar_base.specs.declared.decisions.Combination.{Combination}
use Rattle.haar_base.specs.declared.decisions.Combination.TheVariants as combinations
use Rattle.haar_base.specs.declared.readings.Leaf.{Leaf}
use Rattle.haar_base.specs.declared.readings.Leaf.TheVariants.{Whole, Cut, Wrong}
use Rattle.haar_base.specs.Decisions.{bad_visit, bad_combination}
use Rattle.haar_base.specs.Operations.{operation_at}
use Rattle.haar_base.specs.Readings.{leaf_at, entry, one, nothing_held}
use Rattle.haar_visits.proofs.FormLemmas.{visited}
use Rattle.haar_meaning.specs.PlannedJobs.{PlannedJob, IsPlannedJob, Standing, standing, version_of}
use Rattle.haar_meaning.specs.PlannedJobs.Standing.{Before, At, After}
use Rattle.haar_meaning.specs.RightValues.{written_value}
use Rattle.haar_meaning.specs.RightCells.{stored_node}
use Rattle.haar_meaning.specs.RightDecisions.{IsRightPut, IsRightGive, IsRightCombination}
use Rattle.haar_right.specs.Laws.{IsVisitedRightly, IsCombinedRightly}
use Rattle.haar_right.proofs.KnownLemmas.{IsKnown, before_if, source_is_before}
use Rattle.haar_right.proofs.PlanLemmas.{version_with, Coarsens, coarsen_plan}
use Rattle.haar_right.proofs.ReadingLemmas.{leaf_in, child_key}
use Rattle.haar_right.proofs.DecisionLemmas.{read_is_some, known_or_after, fits_of, child_is_key_of, give_right, given_before, visited_by, is_visited, IsDecision, whole_visit, after_decision, after_put, after_give, FirstOf, NothingSecond, one_side}
use Rattle.haar_right.proofs.WrittenLemmas.{some_of, put_written, not_over}
use Rattle.haar_right.proofs.SourceLemmas.{leaf_found, known_source}
use Rattle.std.specs.Ordering.{int_eq}
use Rattle.std.proofs.lemmas.Bool.Decides.{Decides-int_eq}
use Rattle.tree_model.proofs.ConstantBoxLemmas.{same_tests, constant_from_halves, whole_boxes_are_constant}
use Rattle.tree_model.proofs.CoarsenedTreeLemmas.{coarsened_children, coarsened_leaves, coarsened_tree, coarsened_values}
use Rattle.haar_base.specs.declared.unit.Unit.TheVariants as unit
use Rattle.haar_visits.specs.Coarsening.{coarsen_leaf, visit_coarsened, merged, same, branch, combine_coarsened}
use Rattle.haar_meaning.specs.JobUnits.{IsUnit}
use Rattle.haar_right.proofs.PlanLemmas.{Coarsens}
use Rattle.haar_right.proofs.CompressLemmas.{nothing_entries, cut_there, first_entries}

nothing_leaf : (depth : ℕ) (k : Key) (leaf : Leaf) → NothingSecond (coarsen_leaf depth k leaf)
nothing_leaf depth k (Whole sum) = tt
nothing_leaf depth k Cut = nothing_entries depth k
nothing_leaf depth k Wrong = tt

leaf_first : (source : ℕ) (t : Tree) (k : Key) (depth : ℕ) → IsTree t → (leaf : Leaf) → leaf ≡ leaf_in t k → FirstOf (Coarsen source) t k (coarsen_leaf depth k leaf)
leaf_first source t k depth tree (Whole sum) e = tt
leaf_first source t k depth tree Cut e = first_entries (Coarsen source) t k depth tree refl (cut_there t k e)
leaf_first source t k depth tree Wrong e = tt

-- what is stored

same_is : (a b : ℤ) → same a b ≡ int_eq a b
same_is a b = same_tests (same a b) (int_eq a b)
    (λ e. let zero : unsigned_abs (a -ℤ b) ≡ 0 = eqb-true (unsigned_abs (a -ℤ b)) 0 e in (Decides-int_eq a b).1 (omega (arith, ints, zero)))
    (λ e. let one : a ≡ b = (Decides-int_eq a b).0 e in eq-eqb (unsigned_abs (a -ℤ b)) 0 (omega (arith, ints, one)))

stored_coarse : (t : Tree) (k : Key) → IsTree t → stored_node (version_with Reconstructed (coarsened t)) k
    ≡ (if (coarsened t).shape k then (if (coarsened t).shape k && is_constant t k then LeafData (box_sum t k) else BranchData) else LeafData (box_sum t k))
stored_coarse t k tree = ap (λ (b : Bool). if (coarsened t).shape k then (if b then LeafData (box_sum t k) else BranchData) else LeafData (box_sum t k)) (coarsened_leaves t k tree)

constant_leaf : (t : Tree) (k : Key) → IsTree t → is_constant t k ≡ true → LeafData (box_sum t k) ≡ stored_node (version_with Reconstructed (coarsened t)) k
constant_leaf t k tree is = go ((coarsened t).shape k) ∙ sym ((λ i. if (coarsened t).shape k then (if (coarsened t).shape k && is i then LeafData (box_sum t k) else BranchData) else LeafData (box_sum t k))) ∙ sym (stored_coarse t k tree)
  where
    go : (inside : Bool) → LeafData (box_sum t k) ≡ (if inside then (if inside && true then LeafData (box_sum t k) else BranchData) else LeafData (box_sum t k))
    go true = refl
    go false = refl

kept_key : (t : Tree) (k : Key) → IsTree t → is_key_of t.depth k ≡ true → k.level < t.depth → is_constant t k ≡ false → (coarsened t).shape k ≡ true
kept_key t k tree key above is = (coarsened_tree t tree).shape.parents k false (coarsened_children t k false key above ∙ ap not is)

branch_stored : (t : Tree) (k : Key) → IsTree t → is_key_of t.depth k ≡ true → k.level < t.depth → is_constant t k ≡ false → BranchData ≡ stored_node (version_with Reconstructed (coarsened t)) k
branch_stored t k tree key above is =
    let inside = kept_key t k tree key above is in
    sym (λ i. if inside i then (if inside i && is i then LeafData (box_sum t k) else BranchData) else LeafData (box_sum t k)) ∙ sym (stored_coarse t k tree)

module _ (job : PlannedJob) (planned : IsPlannedJob job) (command source : ℕ) (at : operation_at job.operations command ≡ Some (Coarsen source)) where
  abbrev operation : Operation
  operation = Coarsen source

  plan : Coarsens job planned command source
  plan = coarsen_plan job planned command source (planned.plans command operation at)

  abbrev t : Tree
  t = plan.tree

  abbrev w : Version
  w = version_with Reconstructed (coarsened t)

  never_over : {A : Type 0} → IsKnown job.depth t → standing job command ≡ At → A
  never_over known late = not_over job command w plan.written (coarsened_values t known.values) late

  module _ (k : Key) (place : k.at < 2 ^ k.level) (key : is_key_of job.depth k ≡ true) (known : IsKnown job.depth t) where
    key_in : is_key_of t.depth k ≡ true
    key_in = subst (λ (d : ℕ). is_key_of d k ≡ true) (sym known.depth_is) key

    given : (v : Value) → v ≡ written_value operation (coarsened t) k → IsRightGive job command k v
    given v is = give_right job command operation k place at v
        (λ before. some_of (λ (version : Version). v ≡ written_value operation version.tree k) (version_of job command) w plan.written is) (λ late. never_over known late)

    sum_given : is_constant t k ≡ true → IsRightGive job command k (Sum (box_sum t k))
    sum_given is = given (Sum (box_sum t k)) (sym (ap (λ (b : Bool). if b then Sum (box_sum t k) else Done) is))

    leaf_put : is_constant t k ≡ true → IsRightPut job command k (Some (node.Leaf (box_sum t k)))
    leaf_put is = put_written job command operation k place w (node.Leaf (box_sum t k)) plan.written (λ before. constant_leaf t k known.tree is)

    decision : (cut : Bool) → t.shape (child k false) ≡ cut → IsDecision job command operation k place (coarsen_leaf job.depth k (if cut then Cut else Whole (box_sum t k)))
    decision true is =
        let above : k.level < t.depth = child_key t k false known.tree is in
        let high : k.level < job.depth = subst (λ (d : ℕ). k.level < d) known.depth_is above in
        subst (λ (b : Bool). IsDecision job command operation k place (if b then visits.Split None (one entry) (one entry) nothing_held else bad_visit true)) (sym (lt-ltb k.level job.depth high)) (
          tt,
          visited_by job command operation (child k false) (child_fits k.level k.at false place) (over_coarsened t) plan.visited (λ before. is),
          visited_by job command operation (child k true) (child_fits k.level k.at true place) (over_coarsened t) plan.visited (λ before. known.tree.shape.children k ∙ is),
          before_if (standing job command) (λ before. refl),
        )
    decision false is =
        let constant = whole_boxes_are_constant t k known.tree (record { key = key_in; uncut = is }) in
        (leaf_put constant, sum_given constant)

    -- the up unit
    module _ (above : k.level < job.depth) (cut : standing job command ≡ Before → t.shape (child k false) ≡ true) where
      above_in : k.level < t.depth
      above_in = subst (λ (d : ℕ). k.level < d) (sym known.depth_is) above

      branches : is_constant t k ≡ false → IsRightCombination job command k branch
      branches is = (
        put_written job command operation k place w node.Branch plan.written (λ before. branch_stored t k known.tree key_in above_in is),
        given Done (sym (ap (λ (b : Bool). if b then Sum (box_sum t k) else Done) is)),
      )

      cleared : (right : Bool) → is_constant t k ≡ true → IsUnit job (unit.Clear command (child k right))
      cleared right is = (
        source,
        record {
          at = at;
          key = child_is_key_of job.depth k right key above;
          below = omega arith;
          erased = before_if (standing job command) (λ before. some_of (λ (keys : Visits). keys.erased (child k right) ≡ true) (keys_at job.depth job.commands command) (over_coarsened t) plan.visited
              (λ i. in_tree before right i && not ((coarsened_children t k right key_in above_in ∙ ap not is) i)));
        },
      )
        where
          in_tree : standing job command ≡ Before → (right : Bool) → t.shape (child k right) ≡ true
          in_tree before false = cut before
          in_tree before true = known.tree.shape.children k ∙ cut before

      merges : is_constant t k ≡ true → (half : ℤ) → half +ℤ half ≡ box_sum t k → unsigned_abs half ≤ 2 ^ 40 → IsRightCombination job command k (merged half)
      merges is half twice low =
          subst (λ (b : Bool). IsRightCombination job command k (if b then combinations.Merge (half +ℤ half) else bad_combination true)) (sym (le-leb _ _ low))
          (subst (λ (z : ℤ). IsRightCombination job command k (combinations.Merge z)) (sym twice) (leaf_put is, cleared false is, cleared true is, sum_given is))

      by_values : (left right : Bool) → is_constant t (child k false) ≡ left → is_constant t (child k true) ≡ right
          → IsRightCombination job command k (combine_coarsened (if left then Sum (box_sum t (child k false)) else Done) (if right then Sum (box_sum t (child k true)) else Done))
      by_values true true is_left is_right = go (same (box_sum t (child k false)) (box_sum t (child k true))) refl
        where
          constant_is : is_constant t k ≡ same (box_sum t (child k false)) (box_sum t (child k true))
          constant_is = constant_from_halves t k known.tree key_in above_in ∙ (λ i. is_left i && (is_right i && int_eq (box_sum t (child k false)) (box_sum t (child k true)))) ∙ sym (same_is (box_sum t (child k false)) (box_sum t (child k true)))

          go : (b : Bool) → same (box_sum t (child k false)) (box_sum t (child k true)) ≡ b → IsRightCombination job command k (if b then merged (box_sum t (child k false)) else branch)
          go true e =
              let zero : unsigned_abs (box_sum t (child k false) -ℤ box_sum t (child k true)) ≡ 0 = eqb-true (unsigned_abs (box_sum t (child k false) -ℤ box_sum t (child k true))) 0 e in
              let sum = box_sum_children t k above_in in
              merges (constant_is ∙ e) (box_sum t (child k false)) (omega (arith, ints, zero, sum)) (box_sum_within t (child k false) known.values known.shallow)
          go false e = branches (constant_is ∙ e)
      by_values true false is_left is_right = branches (constant_from_halves t k known.tree key_in above_in ∙ (λ i. is_left i && (is_right i && int_eq (box_sum t (child k false)) (box_sum t (child k true)))))
      by_values false true is_left is_right = branches (constant_from_halves t k known.tree key_in above_in ∙ (λ i. is_left i && (is_constant t (child k true) && int_eq (box_sum t (child k false)) (box_sum t (child k true)))))
      by_values false false is_left is_right = branches (constant_from_halves t k known.tree key_in above_in ∙ (λ i. is_left i && (is_constant t (child k true) && int_eq (box_sum t (child k false)) (box_sum t (child k true)))))

pub coarsen_visited : (source : ℕ) → IsVisitedRightly (Coarsen source)
coarsen_visited source job u first second planned is read other =
    let place = fits_of job.depth u.key is.key in
    let p = plan job planned u.command source is.command.at in
    whole_visit job u.command (Coarsen source) u.key place is.key is.command (visit_coarsened job.depth u.key u.first first)
    (visited job.depth (Coarsen source) u.key (record { first = u.first; second = u.second }) first second refl)
    (one_side job u.command (Coarsen source) u.key place (visit_coarsened job.depth u.key u.first first) (read_is_some job Reconstructed source p.tree p.read) refl first_known (nothing_leaf job.depth u.key (leaf_at u.first first)))
    (⊎_elim (early place) (λ late. after_decision job u.command (Coarsen source) u.key place is.command.at late (visit_coarsened job.depth u.key u.first first)) (known_or_after job u.command source p.earlier))
  where
    first_known : (t : Tree) → standing job source ≡ Before → tree_in Reconstructed (version_of job source) ≡ Some t → FirstOf (Coarsen source) t u.key (visit_coarsened job.depth u.key u.first first)
    first_known t before read_t =
        let known = known_source job Reconstructed source t planned before read_t in
        let found = leaf_found job (Coarsen source) source u.key u.first first t planned before read_t read_t is.first read in
        leaf_first source t u.key job.depth known.tree (leaf_at u.first first) found

    early : (place : u.key.at < 2 ^ u.key.level) → standing job source ≡ Before → IsDecision job u.command (Coarsen source) u.key place (visit_coarsened job.depth u.key u.first first)
    early place before =
        let p = plan job planned u.command source is.command.at in
        let known = known_source job Reconstructed source p.tree planned before p.read in
        let found = leaf_found job (Coarsen source) source u.key u.first first p.tree planned before p.read p.read is.first read in
        subst (λ (leaf : Leaf). IsDecision job u.command (Coarsen source) u.key place (coarsen_leaf job.depth u.key leaf)) (sym found)
        (decision job planned u.command source is.command.at u.key place is.key known (p.tree.shape (child u.key false)) refl)

-- what the children gave before the overflow
given_value : (job : PlannedJob) (planned : IsPlannedJob job) (command source : ℕ) (at : operation_at job.operations command ≡ Some (Coarsen source)) (k : Key) (v : Value) → k.at < 2 ^ k.level → standing job command ≡ Before
    → IsRightGive job command k v → v ≡ (if is_constant (plan job planned command source at).tree k then Sum (box_sum (plan job planned command source at).tree k) else Done)
given_value job planned command source at k v place before right =
    let p = plan job planned command source at in
    subst (λ (o : Option Version). IfSome o (λ version. v ≡ written_value (Coarsen source) version.tree k)) p.written (given_before job command (Coarsen source) k place at v before right)

pub coarsen_combined : (source : ℕ) → IsCombinedRightly (Coarsen source)
coarsen_combined source job u left right planned is first second = go (standing job u.command) refl
  where
    after : standing job u.command ≡ After → (c : Combination) → IsRightCombination job u.command u.key c
    after late (combinations.Give n v) =
        let place = fits_of job.depth u.key is.key in
        (after_put job u.command (Coarsen source) u.key place late n, after_give job u.command (Coarsen source) u.key place is.command.at late v)
    after late (combinations.Merge sum) =
        let place = fits_of job.depth u.key is.key in
        (after_put job u.command (Coarsen source) u.key place late (Some (node.Leaf sum)), cleared false, cleared true, after_give job u.command (Coarsen source) u.key place is.command.at late (Sum sum))
      where
        cleared : (right : Bool) → IsUnit job (unit.Clear u.command (child u.key right))
        cleared right = (
          source,
          record {
            at = is.command.at;
            key = child_is_key_of job.depth u.key right is.key is.above;
            below = omega arith;
            erased = before_if (standing job u.command) (λ before. absurd (cc));
          },
        )

    known : (standing job u.command ≡ After → ⊥) → IsKnown job.depth (plan job planned u.command source is.command.at).tree
    known not_late =
        let p = plan job planned u.command source is.command.at in
        known_source job Reconstructed source p.tree planned (source_is_before job u.command source p.earlier not_late) p.read

    early : standing job u.command ≡ Before → IsRightCombination job u.command u.key (combine_coarsened left right)
    early before =
        let place = fits_of job.depth u.key is.key in
        let p = plan job planned u.command source is.command.at in
        let left_place = fits_of job.depth (child u.key false) (child_is_key_of job.depth u.key false is.key is.above) in
        let right_place = fits_of job.depth (child u.key true) (child_is_key_of job.depth u.key true is.key is.above) in
        let l = given_value job planned u.command source is.command.at (child u.key false) left left_place before first in
        let r = given_value job planned u.command source is.command.at (child u.key true) right right_place before second in
        subst (λ (c : Combination). IsRightCombination job u.command u.key c) (sym (λ i. combine_coarsened (l i) (r i)))
        (by_values job planned u.command source is.command.at u.key place is.key (known (λ late. cc)) is.above
        (λ before. is_visited job u.command (Coarsen source) (child u.key false) left_place (over_coarsened p.tree) p.visited before is.visited)
        (is_constant p.tree (child u.key false)) (is_constant p.tree (child u.key true)) refl refl)

    go : (s : Standing) → standing job u.command ≡ s → IsRightCombination job u.command u.key (combine_coarsened left right)
    go Before before = early before
    go At late = never_over job planned u.command source is.command.at (known (λ later. cc)) late
    go After late = after late (combine_coarsened left right)
