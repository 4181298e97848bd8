-- Units of `compress` decide rightly.
use Rattle.std.proofs.Common.{◌≡◌, ⊎_elim, ℕ, ◌<◌, ◌^◌, Bool, true, false, refl, sym, ap, ◌∙◌, subst, ℤ, ◌+ℤ◌}
use Rattle.std.specs.Prelude.{nat_le, nat_lt, if◌then◌else◌, Option, Some, None, IfSome}
use Rattle.std.specs.Int.RustNames.{unsigned_abs}
use Rattle.std.proofs.lemmas.Bool.{and_from, lt-ltb, le-leb}
use Rattle.tree_key.specs.Keys.{Key, child}
use Rattle.tree_key.proofs.FamilyLemmas.{child_fits}
use Rattle.tree_model.specs.Nodes.Form.{Reconstructed, Compressed}
use Rattle.tree_model.specs.Shapes.{is_key_of}
use Rattle.tree_model.specs.Totals.{over}
use Rattle.tree_model.specs.Trees.{Tree, IsTree, HasValues, box_sum, difference}
use Rattle.tree_model.specs.Versions.{Version, tree_in}
use Rattle.tree_model.proofs.BoundLemmas.{box_sum_within}
use Rattle.tree_model.proofs.BoxSumLemmas.{box_sum_children}
use Rattle.haar_base.specs.declared.operation.Operation.{Operation}
use Rattle.haar_base.specs.declared.operation.Operation.TheVariants.{Compress}
use Rattle.haar_base.specs.declared.value.Value.{Value}
use Rattle.haar_base.specs.declared.value.Value.TheVariants.{Sum}
use Rattle.haar_base.specs.declared.decisions.Visit.TheVariants as visits
use Rattle.haar_base.specs.declared.decisions.Combination.{Combination}
use Rattle.haar_base.specs.declared.decisions.Combination.TheVariants as combinations
use Rattle.haar_base.specs.declared.readings.Leaf.{Leaf}
use Rattle.haar_base.specs.declared.readings.Leaf.TheVariants.{Whole, Cut, Wrong}
use Rattle.haar_base.specs.declared.readings.ChildSides.{ChildSides}
use Rattle.haar_base.specs.Decisions.{bad_visit, bad_combination}
use Rattle.haar_base.specs.Operations.{operation_at, word_of}
use Rattle.haar_base.specs.Readings.{leaf_at, sums, entry, one, nothing_held}
use Rattle.haar_visits.specs.Coarsening.{split_entries}
use Rattle.haar_visits.specs.Compressing.{compressed_node, compress_leaf, visit_compressed, combine_right, combine_compressed}
use Rattle.haar_visits.specs.Forms.{IsCombinationOf}
use Rattle.haar_visits.proofs.FormLemmas.{visited, combined}
use Rattle.haar_meaning.specs.PlannedJobs.{PlannedJob, IsPlannedJob, Standing, standing, version_of}
use Rattle.haar_meaning.specs.PlannedJobs.Standing.{Before, At, After}
use Rattle.haar_meaning.specs.RightValues.{written_value}
use Rattle.haar_meaning.specs.Sides.{knows_sums}
use Rattle.haar_meaning.specs.JobUnits.{IsVisited}
use Rattle.haar_meaning.specs.RightDecisions.{IsRightGive, IsRightCombination}
use Rattle.haar_right.specs.Laws.{IsVisitedRightly, IsCombinedRightly}
use Rattle.haar_right.proofs.KnownLemmas.{IsKnown, before_if, source_is_before}
use Rattle.haar_right.proofs.PlanLemmas.{version_with, compress_plan, Compresses}
use Rattle.haar_right.proofs.ReadingLemmas.{leaf_in, child_key, child_sides, sides_unknown}
use Rattle.haar_right.proofs.DecisionLemmas.{read_is_some, known_or_after, fits_of, child_is_key_of, give_right, given_before, visited_by, is_visited, IsDecision, whole_visit, after_decision, after_put, after_give, FirstOf, NothingSecond, one_side}
use Rattle.haar_right.proofs.WrittenLemmas.{some_of, stored_compressed, put_written, not_over}
use Rattle.haar_right.proofs.SourceLemmas.{leaf_found, known_source}

-- whatever is read, the second tree is none

pub nothing_entries : (depth : ℕ) (k : Key) → NothingSecond (split_entries depth k)
nothing_entries depth k = go (nat_lt k.level depth)
  where
    go : (above : Bool) → NothingSecond (if above then visits.Split None (one entry) (one entry) nothing_held else bad_visit true)
    go true = (refl, refl)
    go false = tt

nothing_leaf : (depth : ℕ) (k : Key) (leaf : Leaf) → NothingSecond (compress_leaf depth k leaf)
nothing_leaf depth k (Whole sum) = tt
nothing_leaf depth k Cut = nothing_entries depth k
nothing_leaf depth k Wrong = tt

-- where a key has children, the units of both know just that
pub cut_there : (t : Tree) (k : Key) → Cut ≡ leaf_in t k → t.shape (child k false) ≡ true
cut_there t k e = go (t.shape (child k false)) e
  where
    go : (b : Bool) → Cut ≡ (if b then Cut else Whole (box_sum t k)) → b ≡ true
    go true e = refl
    go false e = absurd (cc)

pub first_entries : (operation : Operation) (t : Tree) (k : Key) (depth : ℕ) → IsTree t → knows_sums operation ≡ false → t.shape (child k false) ≡ true → FirstOf operation t k (split_entries depth k)
first_entries operation t k depth tree unknown cut = go (nat_lt k.level depth)
  where
    same : child_sides operation t k ≡ record { left = entry; right = entry }
    same = sides_unknown operation t k tree unknown cut

    go : (above : Bool) → FirstOf operation t k (if above then visits.Split None (one entry) (one entry) nothing_held else bad_visit true)
    go true = (sym (ap (λ (c : ChildSides). c.left) same), sym (ap (λ (c : ChildSides). c.right) same))
    go false = tt

leaf_first : (source : ℕ) (t : Tree) (k : Key) (depth : ℕ) → IsTree t → (leaf : Leaf) → leaf ≡ leaf_in t k → FirstOf (Compress source) t k (compress_leaf depth k leaf)
leaf_first source t k depth tree (Whole sum) e = tt
leaf_first source t k depth tree Cut e = first_entries (Compress source) t k depth tree refl (cut_there t k e)
leaf_first source t k depth tree Wrong e = tt

module _ (job : PlannedJob) (planned : IsPlannedJob job) (command source : ℕ) (at : operation_at job.operations command ≡ Some (Compress source)) where
  abbrev operation : Operation
  operation = Compress source

  plan : Compresses job planned command source
  plan = compress_plan job planned command source (planned.plans command operation at)

  abbrev t : Tree
  t = plan.tree

  given : (k : Key) (place : k.at < 2 ^ k.level) → HasValues t → IsRightGive job command k (Sum (box_sum t k))
  given k place values = give_right job command operation k place at (Sum (box_sum t k))
      (λ before. some_of (λ (version : Version). Sum (box_sum t k) ≡ written_value operation version.tree k) (version_of job command) (version_with Compressed t) plan.written refl)
      (λ late. not_over job command (version_with Compressed t) plan.written values late)

  module _ (k : Key) (place : k.at < 2 ^ k.level) (key : is_key_of job.depth k ≡ true) (seen : IsVisited job command k) (known : IsKnown job.depth t) where
    inside : standing job command ≡ Before → t.shape k ≡ true
    inside before = is_visited job command operation k place (over t.shape) plan.visited before seen

    decision : (cut : Bool) → t.shape (child k false) ≡ cut → IsDecision job command operation k place (compress_leaf job.depth k (if cut then Cut else Whole (box_sum t k)))
    decision true is =
        let above : k.level < t.depth = child_key t k false known.tree is in
        let high : k.level < job.depth = subst (λ (d : ℕ). k.level < d) known.depth_is above in
        subst (λ (b : Bool). IsDecision job command operation k place (if b then visits.Split None (one entry) (one entry) nothing_held else bad_visit true)) (sym (lt-ltb k.level job.depth high)) (
          tt,
          visited_by job command operation (child k false) (child_fits k.level k.at false place) (over t.shape) plan.visited (λ before. is),
          visited_by job command operation (child k true) (child_fits k.level k.at true place) (over t.shape) plan.visited (λ before. known.tree.shape.children k ∙ is),
          before_if (standing job command) (λ before. refl),
        )
    decision false is = (
      put_written job command operation k place (version_with Compressed t) (compressed_node k (sums (box_sum t k) None)) plan.written (λ before. stored_compressed t k false (inside before) is),
      given k place known.values,
    )

pub compress_visited : (source : ℕ) → IsVisitedRightly (Compress source)
compress_visited source job u first second planned is read other =
    let place = fits_of job.depth u.key is.key in
    let p = plan job planned u.command source is.command.at in
    whole_visit job u.command (Compress source) u.key place is.key is.command (visit_compressed job.depth u.key u.first first)
    (visited job.depth (Compress source) u.key (record { first = u.first; second = u.second }) first second refl)
    (one_side job u.command (Compress source) u.key place (visit_compressed job.depth u.key u.first first) (read_is_some job Reconstructed source p.tree p.read) refl first_known (nothing_leaf job.depth u.key (leaf_at u.first first)))
    (⊎_elim (early place) (λ late. after_decision job u.command (Compress source) u.key place is.command.at late (visit_compressed job.depth u.key u.first first)) (known_or_after job u.command source p.earlier))
  where
    first_known : (t : Tree) → standing job source ≡ Before → tree_in Reconstructed (version_of job source) ≡ Some t → FirstOf (Compress source) t u.key (visit_compressed job.depth u.key u.first first)
    first_known t before read_t =
        let known = known_source job Reconstructed source t planned before read_t in
        let found = leaf_found job (Compress source) source u.key u.first first t planned before read_t read_t is.first read in
        leaf_first source t u.key job.depth known.tree (leaf_at u.first first) found

    early : (place : u.key.at < 2 ^ u.key.level) → standing job source ≡ Before → IsDecision job u.command (Compress source) u.key place (visit_compressed job.depth u.key u.first first)
    early place before =
        let p = plan job planned u.command source is.command.at in
        let known = known_source job Reconstructed source p.tree planned before p.read in
        let found = leaf_found job (Compress source) source u.key u.first first p.tree planned before p.read p.read is.first read in
        subst (λ (leaf : Leaf). IsDecision job u.command (Compress source) u.key place (compress_leaf job.depth u.key leaf)) (sym found)
        (decision job planned u.command source is.command.at u.key place is.key is.visited known (p.tree.shape (child u.key false)) refl)

-- what the children gave before the overflow
given_sum : (job : PlannedJob) (planned : IsPlannedJob job) (command source : ℕ) (at : operation_at job.operations command ≡ Some (Compress source)) (k : Key) (v : Value) → k.at < 2 ^ k.level → standing job command ≡ Before
    → IsRightGive job command k v → v ≡ Sum (box_sum (plan job planned command source at).tree k)
given_sum job planned command source at k v place before right =
    let p = plan job planned command source at in
    subst (λ (o : Option Version). IfSome o (λ version. v ≡ Sum (box_sum version.tree k))) p.written (given_before job command (Compress source) k place at v before right)

pub compress_combined : (source : ℕ) → IsCombinedRightly (Compress source)
compress_combined source job u left right planned is first second = go (standing job u.command) refl
  where
    place : u.key.at < 2 ^ u.key.level
    place = fits_of job.depth u.key is.key

    after : standing job u.command ≡ After → (c : Combination) → (word : IsCombinationOf (word_of (Compress source)) c) → IsRightCombination job u.command u.key c
    after late (combinations.Give n v) word = (after_put job u.command (Compress source) u.key place late n, after_give job u.command (Compress source) u.key place is.command.at late v)
    after late (combinations.Merge sum) word = absurd (cc)

    early : standing job u.command ≡ Before → IsRightCombination job u.command u.key (combine_compressed u.key left right)
    early before =
        let p = plan job planned u.command source is.command.at in
        let known = known_source job Reconstructed source p.tree planned (source_is_before job u.command source p.earlier (λ late. absurd (cc))) p.read in
        let l : left ≡ Sum (box_sum p.tree (child u.key false)) = given_sum job planned u.command source is.command.at (child u.key false) left (fits_of job.depth (child u.key false) (child_is_key_of job.depth u.key false is.key is.above)) before first in
        let r : right ≡ Sum (box_sum p.tree (child u.key true)) = given_sum job planned u.command source is.command.at (child u.key true) right (fits_of job.depth (child u.key true) (child_is_key_of job.depth u.key true is.key is.above)) before second in
        let above : u.key.level < p.tree.depth = subst (λ (d : ℕ). u.key.level < d) (sym known.depth_is) is.above in
        let low = box_sum_within p.tree (child u.key false) known.values known.shallow in
        let other = box_sum_within p.tree (child u.key true) known.values known.shallow in
        let cut : p.tree.shape (child u.key false) ≡ true = is_visited job u.command (Compress source) (child u.key false) (fits_of job.depth (child u.key false) (child_is_key_of job.depth u.key false is.key is.above)) (over p.tree.shape) p.visited before is.visited in
        let inside : p.tree.shape u.key ≡ true = known.tree.shape.parents u.key false cut in
        let sum : box_sum p.tree u.key ≡ box_sum p.tree (child u.key false) +ℤ box_sum p.tree (child u.key true) = box_sum_children p.tree u.key above in
        subst (λ (v : Value). IsRightCombination job u.command u.key (combine_compressed u.key v right)) (sym l)
        (subst (λ (v : Value). IsRightCombination job u.command u.key (combine_right u.key (box_sum p.tree (child u.key false)) v)) (sym r)
        (subst (λ (b : Bool). IsRightCombination job u.command u.key (if b
        then combinations.Give (Some (compressed_node u.key (sums (box_sum p.tree (child u.key false) +ℤ box_sum p.tree (child u.key true)) (Some (difference p.tree u.key))))) (Sum (box_sum p.tree (child u.key false) +ℤ box_sum p.tree (child u.key true)))
        else bad_combination true)) (sym (and_from (nat_le (unsigned_abs (box_sum p.tree (child u.key false))) (2 ^ 40)) (nat_le (unsigned_abs (box_sum p.tree (child u.key true))) (2 ^ 40)) (le-leb _ _ low) (le-leb _ _ other)))
        (subst (λ (z : ℤ). IsRightCombination job u.command u.key (combinations.Give (Some (compressed_node u.key (sums z (Some (difference p.tree u.key))))) (Sum z))) sum (
          put_written job u.command (Compress source) u.key place (version_with Compressed p.tree) (compressed_node u.key (sums (box_sum p.tree u.key) (Some (difference p.tree u.key)))) p.written (λ before. stored_compressed p.tree u.key true inside cut),
          given job planned u.command source is.command.at u.key place known.values,
        ))))

    go : (s : Standing) → standing job u.command ≡ s → IsRightCombination job u.command u.key (combine_compressed u.key left right)
    go Before before = early before
    go At late =
        let p = plan job planned u.command source is.command.at in
        let known = known_source job Reconstructed source p.tree planned (source_is_before job u.command source p.earlier (λ later. absurd (cc))) p.read in
        not_over job u.command (version_with Compressed p.tree) p.written known.values late
    go After late = after late (combine_compressed u.key left right) (combined job.depth (Compress source) u.key u.held left right refl)
