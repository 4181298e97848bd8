-- Units of `project` decide rightly.
use Rattle.std.proofs.Common.{◌≡◌, ℕ, zero, suc, ◌<◌, ◌^◌, Bool, true, false, List, [], ◌∷◌, refl, sym, ap, ◌∙◌, subst, ℤ}
use Rattle.std.specs.Prelude.{◌&&◌, Option, Some, IfSome, slice_get}
use Rattle.std.specs.List.{list_all}
use Rattle.std.proofs.lemmas.Bool.{and_parts}
use Rattle.tree_key.specs.Keys.{Key, child}
use Rattle.tree_key.proofs.FamilyLemmas.{child_fits}
use Rattle.tree_model.specs.Nodes.Form.{Reconstructed}
use Rattle.tree_model.specs.Nodes.Node.{Leaf as LeafData}
use Rattle.tree_model.specs.Project.{Projection, is_split, projected, projected_shape}
use Rattle.tree_model.specs.Shapes.{is_key_of}
use Rattle.tree_model.specs.Totals.{over}
use Rattle.tree_model.specs.Trees.{HasValues}
use Rattle.tree_model.specs.Versions.{Version}
use Rattle.tree_model.proofs.LeafLemmas.{box_sum_leaf}
use Rattle.tree_model.proofs.RowLemmas.{shape_child}
use Rattle.tree_model.proofs.StoredTreeLemmas.{projections_with_values}
use Rattle.haar_node.specs.declared.Func.{Func}
use Rattle.haar_node.specs.declared.Node.TheVariants as node
use Rattle.haar_node.specs.Func.{function_of}
use Rattle.haar_units.proofs.EffectLemmas.{some_is, none_is}
use Rattle.haar_base.specs.declared.operation.Operation.{Operation}
use Rattle.haar_base.specs.declared.operation.Operation.TheVariants.{Project}
use Rattle.haar_base.specs.declared.value.Value.TheVariants.{Done}
use Rattle.haar_base.specs.Operations.{operation_at, is_within}
use Rattle.haar_visits.specs.Projecting.{visit_by, projected_sum}
use Rattle.haar_visits.proofs.FormLemmas.{visited}
use Rattle.haar_meaning.specs.PlannedJobs.{PlannedJob, IsPlannedJob, standing, version_of}
use Rattle.haar_meaning.specs.PlannedJobs.Standing.{Before}
use Rattle.haar_meaning.specs.RightValues.{written_value}
use Rattle.haar_meaning.specs.JobUnits.{IsVisited}
use Rattle.haar_meaning.specs.RightDecisions.{IsRightGive}
use Rattle.haar_right.specs.Laws.{IsVisitedRightly, IsCombinedRightly}
use Rattle.haar_right.proofs.KnownLemmas.{before_if}
use Rattle.haar_right.proofs.PlanLemmas.{version_with, Projects, project_plan}
use Rattle.haar_right.proofs.ReadingLemmas.{leaf_from}
use Rattle.haar_right.proofs.DecisionLemmas.{fits_of, give_right, visited_by, is_visited, AreSides, IsDecision, whole_visit}
use Rattle.haar_right.proofs.WrittenLemmas.{some_of, stored_branch, stored_leaf, put_written, not_over, done_right}

within_at : (p : Operation → Bool) (operations : List Operation) (n : ℕ) (operation : Operation) → list_all p operations ≡ true → slice_get operations n ≡ Some operation → p operation ≡ true
within_at p [] n operation all at = none_is operation at
within_at p (x ∷ xs) zero operation all at = subst (λ (o : Operation). p o ≡ true) (some_is x operation at) (and_parts (p x) (list_all p xs) all).0
within_at p (x ∷ xs) (suc n) operation all at = within_at p xs n operation (and_parts (p x) (list_all p xs) all).1 at

pub operation_within : (job : PlannedJob) (command : ℕ) (operation : Operation) → IsPlannedJob job → operation_at job.operations command ≡ Some operation → is_within job.depth operation ≡ true
operation_within job zero operation planned at = none_is operation at
operation_within job (suc n) operation planned at = within_at (is_within job.depth) job.operations n operation planned.within at

module _ (job : PlannedJob) (planned : IsPlannedJob job) (command : ℕ) (function : Func) (level tolerance : ℕ) (at : operation_at job.operations command ≡ Some (Project function level tolerance)) where
  abbrev p : Projection
  p = record { function = function_of function; level = level; tolerance = tolerance }

  abbrev operation : Operation
  operation = Project function level tolerance

  plan : Projects job planned command p
  plan = project_plan job planned command function level tolerance (planned.plans command operation at)

  values : HasValues (projected job.depth p)
  values = projections_with_values job.depth p (operation_within job command operation planned at)

  module _ (k : Key) (place : k.at < 2 ^ k.level) (key : is_key_of job.depth k ≡ true) (seen : IsVisited job command k) where
    sides : (split : Bool) (sum : ℤ) → AreSides job command operation k place (visit_by split sum)
    sides true sum = (refl, refl, refl, refl)
    sides false sum = tt

    inside : standing job command ≡ Before → projected_shape job.depth p k ≡ true
    inside before = is_visited job command operation k place (over (projected_shape job.depth p)) plan.visited before seen

    below : (split right : Bool) → is_split job.depth p k ≡ split → standing job command ≡ Before → projected_shape job.depth p (child k right) ≡ split
    below split right is before = shape_child job.depth p k right place ∙ (λ i. inside before i && is i)

    given : IsRightGive job command k Done
    given = give_right job command operation k place at Done
        (λ before. some_of (λ (version : Version). Done ≡ written_value operation version.tree k) (version_of job command) (version_with Reconstructed (projected job.depth p)) plan.written refl)
        (λ late. not_over job command (version_with Reconstructed (projected job.depth p)) plan.written values late)

    decision : (split : Bool) → is_split job.depth p k ≡ split → IsDecision job command operation k place (visit_by split (projected_sum job.depth function k))
    decision true is = (
      put_written job command operation k place (version_with Reconstructed (projected job.depth p)) node.Branch plan.written (λ before. stored_branch (projected job.depth p) k (inside before) (below true false is before)),
      visited_by job command operation (child k false) (child_fits k.level k.at false place) (over (projected_shape job.depth p)) plan.visited (below true false is),
      visited_by job command operation (child k true) (child_fits k.level k.at true place) (over (projected_shape job.depth p)) plan.visited (below true true is),
      before_if (standing job command) (λ before. refl),
    )
    decision false is = (
      put_written job command operation k place (version_with Reconstructed (projected job.depth p)) (node.Leaf (projected_sum job.depth function k)) plan.written
          (λ before. ap LeafData (sym (box_sum_leaf job.depth p k (leaf_from (projected job.depth p) k (inside before) (below false false is before)))) ∙ stored_leaf (projected job.depth p) k (inside before) (below false false is before)),
      given,
    )

pub project_visited : (function : Func) (level tolerance : ℕ) → IsVisitedRightly (Project function level tolerance)
project_visited function level tolerance job u first second planned is read other =
    let place = fits_of job.depth u.key is.key in
    let split = is_split job.depth (record { function = function_of function; level = level; tolerance = tolerance }) u.key in
    whole_visit job u.command (Project function level tolerance) u.key place is.key is.command (visit_by split (projected_sum job.depth function u.key))
    (visited job.depth (Project function level tolerance) u.key (record { first = u.first; second = u.second }) first second refl)
    (sides job planned u.command function level tolerance is.command.at u.key place is.key is.visited split (projected_sum job.depth function u.key))
    (decision job planned u.command function level tolerance is.command.at u.key place is.key is.visited split refl)

pub project_combined : (function : Func) (level tolerance : ℕ) → IsCombinedRightly (Project function level tolerance)
project_combined function level tolerance job u left right planned is first second =
    let p : Projection = record { function = function_of function; level = level; tolerance = tolerance } in
    let plan = project_plan job planned u.command function level tolerance (planned.plans u.command (Project function level tolerance) is.command.at) in
    done_right job (Project function level tolerance) u left right (version_with Reconstructed (projected job.depth p)) is plan.written refl
    (λ k v meant. subst (λ (o : Option Version). IfSome o (λ version. v ≡ Done)) plan.written meant)
    (some_of (λ (version : Version). Done ≡ Done) (version_of job u.command) (version_with Reconstructed (projected job.depth p)) plan.written refl)
    first second
