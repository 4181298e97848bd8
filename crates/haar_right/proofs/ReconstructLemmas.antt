-- Units of `reconstruct` decide rightly.
use Rattle.std.proofs.Common.{◌≡◌, ⊎_elim, ℕ, ◌<◌, ◌^◌, Bool, true, false, refl, sym, ap, ◌∙◌, subst, ℤ}
use Rattle.std.specs.Prelude.{◌==◌, nat_lt, if◌then◌else◌, Option, Some, None, IfSome}
use Rattle.std.proofs.lemmas.Bool.{and_parts, lt-ltb, ltb-true, false_from_ne_true}
use Rattle.tree_key.specs.Keys.{Key, child}
use Rattle.tree_key.proofs.FamilyLemmas.{child_fits}
use Rattle.tree_model.specs.Nodes.Form.{Reconstructed, Compressed}
use Rattle.tree_model.specs.Shapes.{is_key_of, is_interior}
use Rattle.tree_model.specs.StoredTrees.{difference_at}
use Rattle.tree_model.specs.Totals.{over}
use Rattle.tree_model.specs.Trees.{Tree, IsTree, box_sum, difference}
use Rattle.tree_model.specs.Versions.{Version, tree_in}
use Rattle.haar_node.specs.declared.Node.TheVariants as node
use Rattle.haar_base.specs.declared.operation.Operation.{Operation}
use Rattle.haar_base.specs.declared.operation.Operation.TheVariants.{Reconstruct}
use Rattle.haar_base.specs.declared.value.Value.TheVariants.{Done}
use Rattle.haar_base.specs.declared.readings.Sums.{Sums}
use Rattle.haar_base.specs.declared.readings.ChildSides.{ChildSides}
use Rattle.haar_base.specs.Decisions.{bad_visit}
use Rattle.haar_base.specs.Operations.{operation_at}
use Rattle.haar_base.specs.Readings.{sums_at, sides_by}
use Rattle.haar_visits.specs.Refining.{split_one}
use Rattle.haar_visits.specs.Reconstructing.{reconstruct_by, reconstruct_sums, visit_reconstructed}
use Rattle.haar_visits.proofs.FormLemmas.{visited}
use Rattle.haar_meaning.specs.PlannedJobs.{PlannedJob, IsPlannedJob, standing, version_of}
use Rattle.haar_meaning.specs.PlannedJobs.Standing.{Before}
use Rattle.haar_meaning.specs.RightValues.{written_value}
use Rattle.haar_meaning.specs.JobUnits.{IsVisited}
use Rattle.haar_meaning.specs.RightDecisions.{IsRightGive}
use Rattle.haar_right.specs.Laws.{IsVisitedRightly, IsCombinedRightly}
use Rattle.haar_right.proofs.KnownLemmas.{IsKnown, before_if, version_is_tree}
use Rattle.haar_right.proofs.PlanLemmas.{version_with, reconstruct_plan, Reconstructs}
use Rattle.haar_right.proofs.ReadingLemmas.{child_key, interior_from, sums_children}
use Rattle.haar_right.proofs.DecisionLemmas.{read_is_some, known_or_after, fits_of, give_right, visited_by, is_visited, IsDecision, whole_visit, after_decision, FirstOf, NothingSecond, one_side}
use Rattle.haar_right.proofs.WrittenLemmas.{some_of, stored_branch, stored_leaf, put_written, not_over, done_right}
use Rattle.haar_right.proofs.SourceLemmas.{sums_found, known_source}

-- whatever is read, the second tree is none

nothing_split : (o : Option ChildSides) → NothingSecond (split_one o)
nothing_split None = tt
nothing_split (Some below) = (refl, refl)

nothing_sums : (depth : ℕ) (k : Key) (o : Option Sums) → NothingSecond (reconstruct_sums depth k o)
nothing_sums depth k None = tt
nothing_sums depth k (Some s) = by_difference s.difference
  where
    by_difference : (d : Option ℤ) → NothingSecond (reconstruct_by depth k s.sum d)
    by_difference None = tt
    by_difference (Some d) = go (nat_lt k.level depth)
      where
        go : (above : Bool) → NothingSecond (if above then split_one (sides_by s.sum (Some d)) else bad_visit true)
        go true = nothing_split (sides_by s.sum (Some d))
        go false = tt

module _ (source : ℕ) (t : Tree) (k : Key) (tree : IsTree t) (key : is_key_of t.depth k ≡ true) where
  first_of : FirstOf (Reconstruct source) t k (reconstruct_by t.depth k (box_sum t k) (difference_at t k))
  first_of = go (difference_at t k) refl
    where
      go : (d : Option ℤ) → difference_at t k ≡ d → FirstOf (Reconstruct source) t k (reconstruct_by t.depth k (box_sum t k) d)
      go None e = tt
      go (Some d) e = here (nat_lt k.level t.depth) refl
        where
          here : (above : Bool) → nat_lt k.level t.depth ≡ above → FirstOf (Reconstruct source) t k (if above then split_one (sides_by (box_sum t k) (Some d)) else bad_visit true)
          here true above = subst (λ (o : Option ChildSides). FirstOf (Reconstruct source) t k (split_one o))
              (sym (ap (sides_by (box_sum t k)) (sym e) ∙ sums_children (Reconstruct source) t k tree refl key (ltb-true k.level t.depth above))) (refl, refl)
          here false above = tt

module _ (job : PlannedJob) (planned : IsPlannedJob job) (command source : ℕ) (at : operation_at job.operations command ≡ Some (Reconstruct source)) where
  abbrev operation : Operation
  operation = Reconstruct source

  plan : Reconstructs job planned command source
  plan = reconstruct_plan job planned command source (planned.plans command operation at)

  abbrev t : Tree
  t = plan.tree

  module _ (k : Key) (place : k.at < 2 ^ k.level) (key : is_key_of job.depth k ≡ true) (seen : IsVisited job command k) (known : IsKnown job.depth t) where
    inside : standing job command ≡ Before → t.shape k ≡ true
    inside before = is_visited job command operation k place (over t.shape) plan.visited before seen

    given : IsRightGive job command k Done
    given = give_right job command operation k place at Done
        (λ before. some_of (λ (version : Version). Done ≡ written_value operation version.tree k) (version_of job command) (version_with Reconstructed t) plan.written refl)
        (λ late. not_over job command (version_with Reconstructed t) plan.written known.values late)

    decision : (cut : Bool) → t.shape (child k false) ≡ cut → IsDecision job command operation k place (reconstruct_by job.depth k (box_sum t k) (difference_at t k))
    decision true is =
        let above : k.level < t.depth = child_key t k false known.tree is in
        let high : k.level < job.depth = subst (λ (d : ℕ). k.level < d) known.depth_is above in
        let key_in : is_key_of t.depth k ≡ true = subst (λ (d : ℕ). is_key_of d k ≡ true) (sym known.depth_is) key in
        let both : difference_at t k ≡ Some (difference t k) = ap (λ (b : Bool). if b then Some (difference t k) else None) (interior_from t k (known.tree.shape.parents k false is) is) in
        subst (λ (d : Option ℤ). IsDecision job command operation k place (reconstruct_by job.depth k (box_sum t k) d)) (sym both)
        (subst (λ (b : Bool). IsDecision job command operation k place (if b then split_one (sides_by (box_sum t k) (Some (difference t k))) else bad_visit true)) (sym (lt-ltb k.level job.depth high))
        (subst (λ (o : Option ChildSides). IsDecision job command operation k place (split_one o)) (sym (ap (sides_by (box_sum t k)) (sym both) ∙ sums_children operation t k known.tree refl key_in above)) (
          put_written job command operation k place (version_with Reconstructed t) node.Branch plan.written (λ before. stored_branch t k (inside before) is),
          visited_by job command operation (child k false) (child_fits k.level k.at false place) (over t.shape) plan.visited (λ before. is),
          visited_by job command operation (child k true) (child_fits k.level k.at true place) (over t.shape) plan.visited (λ before. known.tree.shape.children k ∙ is),
          before_if (standing job command) (λ before. refl),
        )))
    decision false is =
        let none : difference_at t k ≡ None = ap (λ (b : Bool). if b then Some (difference t k) else None) (false_from_ne_true (is_interior t.shape k) (λ both. let cut = (and_parts (t.shape k) (t.shape (child k false)) both).1 in absurd (cc))) in
        subst (λ (d : Option ℤ). IsDecision job command operation k place (reconstruct_by job.depth k (box_sum t k) d)) (sym none)
        (put_written job command operation k place (version_with Reconstructed t) (node.Leaf (box_sum t k)) plan.written (λ before. stored_leaf t k (inside before) is), given)

pub reconstruct_visited : (source : ℕ) → IsVisitedRightly (Reconstruct source)
reconstruct_visited source job u first second planned is read other =
    let place = fits_of job.depth u.key is.key in
    let p = plan job planned u.command source is.command.at in
    whole_visit job u.command (Reconstruct source) u.key place is.key is.command (visit_reconstructed job.depth u.key u.first first)
    (visited job.depth (Reconstruct source) u.key (record { first = u.first; second = u.second }) first second refl)
    (one_side job u.command (Reconstruct source) u.key place (visit_reconstructed job.depth u.key u.first first) (read_is_some job Compressed source p.tree p.read) refl first_known (nothing_sums job.depth u.key (sums_at (u.key.level == 0) u.first first)))
    (⊎_elim (early place) (λ late. after_decision job u.command (Reconstruct source) u.key place is.command.at late (visit_reconstructed job.depth u.key u.first first)) (known_or_after job u.command source p.earlier))
  where
    first_known : (t : Tree) → standing job source ≡ Before → tree_in Compressed (version_of job source) ≡ Some t → FirstOf (Reconstruct source) t u.key (visit_reconstructed job.depth u.key u.first first)
    first_known t before read_t =
        let known = known_source job Compressed source t planned before read_t in
        let found = sums_found job (Reconstruct source) source u.key u.first first t before refl read_t read_t is.first read in
        let key_in : is_key_of t.depth u.key ≡ true = subst (λ (d : ℕ). is_key_of d u.key ≡ true) (sym known.depth_is) is.key in
        subst (λ (o : Option Sums). FirstOf (Reconstruct source) t u.key (reconstruct_sums job.depth u.key o)) (sym found)
        (subst (λ (d : ℕ). FirstOf (Reconstruct source) t u.key (reconstruct_by d u.key (box_sum t u.key) (difference_at t u.key))) known.depth_is (first_of source t u.key known.tree key_in))

    early : (place : u.key.at < 2 ^ u.key.level) → standing job source ≡ Before → IsDecision job u.command (Reconstruct source) u.key place (visit_reconstructed job.depth u.key u.first first)
    early place before =
        let p = plan job planned u.command source is.command.at in
        let known = known_source job Compressed source p.tree planned before p.read in
        let found = sums_found job (Reconstruct source) source u.key u.first first p.tree before refl p.read p.read is.first read in
        subst (λ (o : Option Sums). IsDecision job u.command (Reconstruct source) u.key place (reconstruct_sums job.depth u.key o)) (sym found)
        (decision job planned u.command source is.command.at u.key place is.key is.visited known (p.tree.shape (child u.key false)) refl)

pub reconstruct_combined : (source : ℕ) → IsCombinedRightly (Reconstruct source)
reconstruct_combined source job u left right planned is first second =
    let p = plan job planned u.command source is.command.at in
    done_right job (Reconstruct source) u left right (version_with Reconstructed p.tree) is p.written (version_is_tree job u.command (version_with Reconstructed p.tree) p.written).depth_is
    (λ k v meant. subst (λ (o : Option Version). IfSome o (λ version. v ≡ Done)) p.written meant)
    (some_of (λ (version : Version). Done ≡ Done) (version_of job u.command) (version_with Reconstructed p.tree) p.written refl)
    first second
