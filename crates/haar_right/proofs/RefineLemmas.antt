-- Units of `refine` decide rightly.
use Rattle.std.proofs.Common.{◌≡◌, ⊎_elim, ℕ, zero, suc, ◌+◌, ◌<◌, ◌≤◌, ◌^◌, Bool, true, false, List, [], ◌∷◌, refl, sym, ap, ◌∙◌, subst, arith}
use Rattle.std.specs.Prelude.{◌&&◌, ◌||◌, nat_le, if◌then◌else◌, Option, Some, None, IfSome, slice_get}
use Rattle.std.proofs.lemmas.Bool.{and_parts, leb-false, lt-leb, le-leb, leb-true, and_right}
use Rattle.tree_key.specs.Keys.{Key, child}
use Rattle.tree_key.proofs.FamilyLemmas.{child_fits}
use Rattle.tree_model.specs.Nodes.Form.{Reconstructed}
use Rattle.tree_model.specs.Operations.{refined}
use Rattle.tree_model.specs.Shapes.{is_key_of}
use Rattle.tree_model.specs.Totals.{over}
use Rattle.tree_model.specs.Trees.{Tree, IsTree, box_sum}
use Rattle.tree_model.specs.Versions.{Version, tree_in}
use Rattle.tree_model.proofs.StoredTreeLemmas.{refined_have_values}
use Rattle.haar_node.specs.declared.Node.TheVariants as node
use Rattle.haar_units.proofs.EffectLemmas.{some_is, none_is}
use Rattle.haar_base.specs.declared.operation.Operation.{Operation}
use Rattle.haar_base.specs.declared.operation.Operation.TheVariants.{Refine}
use Rattle.haar_base.specs.declared.unit.Side.{Side}
use Rattle.haar_base.specs.declared.value.Value.TheVariants.{Done}
use Rattle.haar_base.specs.declared.decisions.Visit.TheVariants as visits
use Rattle.haar_base.specs.declared.readings.Leaf.{Leaf}
use Rattle.haar_base.specs.declared.readings.Leaf.TheVariants.{Whole, Cut, Wrong}
use Rattle.haar_base.specs.declared.readings.ChildSides.{ChildSides}
use Rattle.haar_base.specs.Decisions.{bad_visit}
use Rattle.haar_base.specs.Operations.{operation_at}
use Rattle.haar_base.specs.Readings.{leaf_at, leaf_sides, one, nothing_held}
use Rattle.haar_visits.specs.Refining.{split_one, refine_cut, refine_leaf, visit_refined}
use Rattle.haar_visits.proofs.FormLemmas.{visited}
use Rattle.haar_meaning.specs.PlannedJobs.{PlannedJob, IsPlannedJob, standing, version_of}
use Rattle.haar_meaning.specs.PlannedJobs.Standing.{Before}
use Rattle.haar_meaning.specs.RightValues.{written_value}
use Rattle.haar_meaning.specs.Sides.{side_of}
use Rattle.haar_meaning.specs.JobUnits.{IsVisited}
use Rattle.haar_meaning.specs.RightDecisions.{IsRightGive}
use Rattle.haar_right.specs.Laws.{IsVisitedRightly, IsCombinedRightly}
use Rattle.haar_right.proofs.KnownLemmas.{IsKnown, before_if, version_is_tree}
use Rattle.haar_right.proofs.PlanLemmas.{version_with, refine_plan, Refines}
use Rattle.haar_right.proofs.ReadingLemmas.{leaf_in, child_key, leaf_children}
use Rattle.haar_right.proofs.DecisionLemmas.{read_is_some, known_or_after, fits_of, child_is_key_of, give_right, visited_by, is_visited, IsDecision, whole_visit, after_decision, FirstOf, NothingSecond, one_side}
use Rattle.haar_right.proofs.WrittenLemmas.{some_of, stored_branch, stored_leaf, put_written, not_over, done_right}
use Rattle.haar_right.proofs.SourceLemmas.{leaf_found, known_source}
use Rattle.std.proofs.Common.{length, get_or}
use Rattle.tree_model.specs.Commands.{Command}
use Rattle.job_data.specs.Checks.{has_names, is_within_limits}
use Rattle.job_data.proofs.CheckLemmas.{accepted_at}
use Rattle.haar_meaning.specs.PlannedJobs.{HasPlan, IsPlan}
use Rattle.std.specs.Prelude.{take}

-- the level is at most the depth

there_at : (cs : List Command) (n : ℕ) (c : Command) → slice_get cs n ≡ Some c → (get_or cs n c ≡ c) × (n < length cs)
there_at [] n c e = none_is c e
there_at (x ∷ cs) zero c e = (some_is x c e, omega arith)
there_at (x ∷ cs) (suc n) c e = let rest = there_at cs n c e in (rest.0, let low = rest.1 in omega (arith, low))

level_within : (job : PlannedJob) → IsPlannedJob job → (command level source : ℕ) → HasPlan job.commands command (Refine level source) → level ≤ job.depth
level_within job planned zero level source plan = none_is plan.command plan.at
level_within job planned (suc n) level source plan = go plan.command plan.at plan.plan
  where
    go : (c : Command) → slice_get job.commands n ≡ Some c → IsPlan (take n job.commands) c (Refine level source) → level ≤ job.depth
    go (Command.Refine name down_to) at plan =
        let there = there_at job.commands n (Command.Refine name down_to) at in
        let within = accepted_at job.depth [] job.commands n (Command.Refine name down_to) planned.checked.commands there.1 in
        let numbers = (and_parts (has_names (Command.Refine name down_to)) (nat_le down_to job.depth) (subst (λ (c : Command). is_within_limits job.depth c ≡ true) there.0 within)).1 in
        subst (λ (l : ℕ). l ≤ job.depth) plan.0 (leb-true down_to job.depth numbers)
    go _ at plan = absurd plan

-- whatever is read, the second tree is none

nothing_split : (o : Option ChildSides) → NothingSecond (split_one o)
nothing_split None = tt
nothing_split (Some below) = (refl, refl)

nothing_cut : (deep : Bool) (leaf : Leaf) → NothingSecond (if deep then bad_visit true else split_one (leaf_sides leaf))
nothing_cut true leaf = tt
nothing_cut false leaf = nothing_split (leaf_sides leaf)

nothing_leaf : (depth level : ℕ) (k : Key) (leaf : Leaf) → NothingSecond (refine_leaf depth level k leaf)
nothing_leaf depth level k (Whole sum) = go (nat_le level k.level)
  where
    go : (low : Bool) → NothingSecond (if low then visits.Give (Some (node.Leaf sum)) Done else refine_cut depth k (Whole sum))
    go true = tt
    go false = nothing_cut (nat_le depth k.level) (Whole sum)
nothing_leaf depth level k Cut = nothing_cut (nat_le depth k.level) Cut
nothing_leaf depth level k Wrong = nothing_cut (nat_le depth k.level) Wrong

module _ (level source : ℕ) (t : Tree) (k : Key) (tree : IsTree t) (key : is_key_of t.depth k ≡ true) where
  cut_first : (leaf : Leaf) → leaf ≡ leaf_in t k → FirstOf (Refine level source) t k (refine_cut t.depth k leaf)
  cut_first leaf is = go (nat_le t.depth k.level) refl
    where
      go : (deep : Bool) → nat_le t.depth k.level ≡ deep → FirstOf (Refine level source) t k (if deep then bad_visit true else split_one (leaf_sides leaf))
      go true e = tt
      go false e = subst (λ (o : Option ChildSides). FirstOf (Refine level source) t k (split_one o)) (sym (ap leaf_sides is ∙ leaf_children (Refine level source) t k tree refl key (leb-false t.depth k.level e))) (refl, refl)

  leaf_first : (leaf : Leaf) → leaf ≡ leaf_in t k → FirstOf (Refine level source) t k (refine_leaf t.depth level k leaf)
  leaf_first (Whole sum) is = go (nat_le level k.level)
    where
      go : (low : Bool) → FirstOf (Refine level source) t k (if low then visits.Give (Some (node.Leaf sum)) Done else refine_cut t.depth k (Whole sum))
      go true = tt
      go false = cut_first (Whole sum) is
  leaf_first Cut is = cut_first Cut is
  leaf_first Wrong is = cut_first Wrong is

  -- the refined tree's keys

  kept : (c : Key) → t.shape c ≡ true → (refined level t).shape c ≡ true
  kept c is = λ i. is i || (is_key_of t.depth c && nat_le c.level level)

  added : (right : Bool) → k.level < level → k.level < t.depth → (refined level t).shape (child k right) ≡ true
  added right low above = go (t.shape (child k right)) (child_is_key_of t.depth k right key above) (le-leb (k.level + 1) level (omega (arith, low)))
    where
      go : (b : Bool) → is_key_of t.depth (child k right) ≡ true → nat_le (k.level + 1) level ≡ true → (b || (is_key_of t.depth (child k right) && nat_le (k.level + 1) level)) ≡ true
      go true a c = refl
      go false a c = λ i. a i && c i

  not_added : level ≤ k.level → t.shape (child k false) ≡ false → (refined level t).shape (child k false) ≡ false
  not_added high none = (λ i. none i || (is_key_of t.depth (child k false) && lt-leb (k.level + 1) level (omega (arith, high)) i)) ∙ and_right (is_key_of t.depth (child k false)) false refl

module _ (job : PlannedJob) (planned : IsPlannedJob job) (command level source : ℕ) (at : operation_at job.operations command ≡ Some (Refine level source)) where
  abbrev operation : Operation
  operation = Refine level source

  plan : Refines job planned command level source
  plan = refine_plan job planned command level source (planned.plans command operation at)

  abbrev t : Tree
  t = plan.tree

  module _ (k : Key) (place : k.at < 2 ^ k.level) (key : is_key_of job.depth k ≡ true) (seen : IsVisited job command k) (known : IsKnown job.depth t) where
    key_in : is_key_of t.depth k ≡ true
    key_in = subst (λ (d : ℕ). is_key_of d k ≡ true) (sym known.depth_is) key

    inside : standing job command ≡ Before → (refined level t).shape k ≡ true
    inside before = is_visited job command operation k place (over (refined level t).shape) plan.visited before seen

    given : IsRightGive job command k Done
    given = give_right job command operation k place at Done
        (λ before. some_of (λ (version : Version). Done ≡ written_value operation version.tree k) (version_of job command) (version_with Reconstructed (refined level t)) plan.written refl)
        (λ late. not_over job command (version_with Reconstructed (refined level t)) plan.written (refined_have_values level t known.values) late)

    -- the key has children in the refined tree
    splits : (left right : Side) → (standing job command ≡ Before → (right : Bool) → (refined level t).shape (child k right) ≡ true) → IsDecision job command operation k place (visits.Split (Some node.Branch) (one left) (one right) nothing_held)
    splits left right there = (
      put_written job command operation k place (version_with Reconstructed (refined level t)) node.Branch plan.written (λ before. stored_branch (refined level t) k (inside before) (there before false)),
      visited_by job command operation (child k false) (child_fits k.level k.at false place) (over (refined level t).shape) plan.visited (λ before. there before false),
      visited_by job command operation (child k true) (child_fits k.level k.at true place) (over (refined level t).shape) plan.visited (λ before. there before true),
      before_if (standing job command) (λ before. refl),
    )

    cut_decision : (leaf : Leaf) → leaf ≡ leaf_in t k → k.level < t.depth → ((right : Bool) → (refined level t).shape (child k right) ≡ true) → IsDecision job command operation k place (refine_cut job.depth k leaf)
    cut_decision leaf is above there =
        let high : k.level < job.depth = subst (λ (d : ℕ). k.level < d) known.depth_is above in
        subst (λ (b : Bool). IsDecision job command operation k place (if b then bad_visit true else split_one (leaf_sides leaf))) (sym (lt-leb job.depth k.level high))
        (subst (λ (o : Option ChildSides). IsDecision job command operation k place (split_one o)) (sym (ap leaf_sides is ∙ leaf_children operation t k known.tree refl key_in above))
        (splits (side_of operation t (child k false)) (side_of operation t (child k true)) (λ before right. there right)))

    decision : (cut : Bool) → t.shape (child k false) ≡ cut → IsDecision job command operation k place (refine_leaf job.depth level k (if cut then Cut else Whole (box_sum t k)))
    decision true is = cut_decision Cut (sym (ap (λ (b : Bool). if b then Cut else Whole (box_sum t k)) is)) (child_key t k false known.tree is) there
      where
        there : (right : Bool) → (refined level t).shape (child k right) ≡ true
        there false = kept level source t k known.tree key_in (child k false) is
        there true = kept level source t k known.tree key_in (child k true) (known.tree.shape.children k ∙ is)
    decision false is = go (nat_le level k.level) refl
      where
        go : (low : Bool) → nat_le level k.level ≡ low → IsDecision job command operation k place (if low then visits.Give (Some (node.Leaf (box_sum t k))) Done else refine_cut job.depth k (Whole (box_sum t k)))
        go true low = (
          put_written job command operation k place (version_with Reconstructed (refined level t)) (node.Leaf (box_sum t k)) plan.written
              (λ before. stored_leaf (refined level t) k (inside before) (not_added level source t k known.tree key_in (leb-true level k.level low) is)),
          given,
        )
        go false low =
            let high : k.level < level = leb-false level k.level low in
            let within : level ≤ job.depth = level_within job planned command level source (planned.plans command operation at) in
            let above : k.level < t.depth = subst (λ (d : ℕ). k.level < d) (sym known.depth_is) (omega (arith, high, within)) in
            cut_decision (Whole (box_sum t k)) (sym (ap (λ (b : Bool). if b then Cut else Whole (box_sum t k)) is)) above (λ right. added level source t k known.tree key_in right high above)

pub refine_visited : (level source : ℕ) → IsVisitedRightly (Refine level source)
refine_visited level source job u first second planned is read other =
    let place = fits_of job.depth u.key is.key in
    let p = plan job planned u.command level source is.command.at in
    whole_visit job u.command (Refine level source) u.key place is.key is.command (visit_refined job.depth level u.key u.first first)
    (visited job.depth (Refine level source) u.key (record { first = u.first; second = u.second }) first second refl)
    (one_side job u.command (Refine level source) u.key place (visit_refined job.depth level u.key u.first first) (read_is_some job Reconstructed source p.tree p.read) refl first_known (nothing_leaf job.depth level u.key (leaf_at u.first first)))
    (⊎_elim (early place) (λ late. after_decision job u.command (Refine level source) u.key place is.command.at late (visit_refined job.depth level u.key u.first first)) (known_or_after job u.command source p.earlier))
  where
    first_known : (t : Tree) → standing job source ≡ Before → tree_in Reconstructed (version_of job source) ≡ Some t → FirstOf (Refine level source) t u.key (visit_refined job.depth level u.key u.first first)
    first_known t before read_t =
        let known = known_source job Reconstructed source t planned before read_t in
        let found = leaf_found job (Refine level source) source u.key u.first first t planned before read_t read_t is.first read in
        let key_in : is_key_of t.depth u.key ≡ true = subst (λ (d : ℕ). is_key_of d u.key ≡ true) (sym known.depth_is) is.key in
        subst (λ (d : ℕ). FirstOf (Refine level source) t u.key (refine_leaf d level u.key (leaf_at u.first first))) known.depth_is (leaf_first level source t u.key known.tree key_in (leaf_at u.first first) found)

    early : (place : u.key.at < 2 ^ u.key.level) → standing job source ≡ Before → IsDecision job u.command (Refine level source) u.key place (visit_refined job.depth level u.key u.first first)
    early place before =
        let p = plan job planned u.command level source is.command.at in
        let known = known_source job Reconstructed source p.tree planned before p.read in
        let found = leaf_found job (Refine level source) source u.key u.first first p.tree planned before p.read p.read is.first read in
        subst (λ (leaf : Leaf). IsDecision job u.command (Refine level source) u.key place (refine_leaf job.depth level u.key leaf)) (sym found)
        (decision job planned u.command level source is.command.at u.key place is.key is.visited known (p.tree.shape (child u.key false)) refl)

pub refine_combined : (level source : ℕ) → IsCombinedRightly (Refine level source)
refine_combined level source job u left right planned is first second =
    let p = plan job planned u.command level source is.command.at in
    done_right job (Refine level source) u left right (version_with Reconstructed (refined level p.tree)) is p.written (version_is_tree job u.command (version_with Reconstructed (refined level p.tree)) p.written).depth_is
    (λ k v meant. subst (λ (o : Option Version). IfSome o (λ version. v ≡ Done)) p.written meant)
    (some_of (λ (version : Version). Done ≡ Done) (version_of job u.command) (version_with Reconstructed (refined level p.tree)) p.written refl)
    first second
