-- A unit of a sound command does what is planned.
use Rattle.std.proofs.Common.{◌≡◌, ℕ, ◌*◌, ◌<◌, ◌^◌, Bool, true, false, refl, sym, ap, ◌∙◌, subst, ℤ, ◌+ℤ◌, nat_le, nat_lt}
use Rattle.std.specs.Prelude.{not, if◌then◌else◌, ◌++◌, List, Option, Some}
use Rattle.std.specs.Option.{option_map_or}
use Rattle.std.specs.Int.RustNames.{unsigned_abs}
use Rattle.std.proofs.lemmas.Bool.{and_parts, false_from_ne_true, lt-ltb, le-leb, not-true}
use Rattle.app_core.specs.Given.{Given}
use Rattle.app_core.specs.Inputs.{AreRight}
use Rattle.app_core.specs.declared.Label.{Label}
use Rattle.app_core.specs.declared.Outline.{Outline}
use Rattle.tree_key.specs.Keys.{Key, child, place_of}
use Rattle.tree_key.proofs.FamilyLemmas.{child_fits}
use Rattle.tree_model.specs.Operations.{coarsened}
use Rattle.tree_model.specs.Shapes.{is_key_of}
use Rattle.tree_model.specs.Totals.{Visits, over_coarsened}
use Rattle.tree_model.specs.Trees.{box_sum, is_constant}
use Rattle.tree_model.specs.Versions.{Version}
use Rattle.tree_model.specs.Nodes.Form.{Reconstructed}
use Rattle.tree_model.proofs.CoarsenedTreeLemmas.{coarsened_children}
use Rattle.haar_node.specs.declared.Node.{Node}
use Rattle.haar_units.specs.Jobs.{DistributedJob, is_on_trees}
use Rattle.haar_units.specs.Jobs.{operation_at as word_at}
use Rattle.haar_units.specs.Jobs.Operation.{Coarsen as CoarsenWord}
use Rattle.haar_units.specs.Actions.{Action, Allowed, outlines_of}
use Rattle.haar_units.specs.ModelJobs.{keys_at}
use Rattle.haar_units.specs.Places.{has_place}
use Rattle.haar_units.specs.Traversals.{Traversal, action_at, plan, plan_if}
use Rattle.haar_units.proofs.JobTraversalLemmas.{jobs_traversed}
use Rattle.haar_units.proofs.KeyCountLemmas.{at_place}
use Rattle.haar_base.specs.declared.operation.Operation.{Operation}
use Rattle.haar_base.specs.declared.operation.Operation.TheVariants.{Project, Refine, Coarsen, Compress, Reconstruct, Add, Mul, Inner, Print, Size, Fence}
use Rattle.haar_base.specs.declared.unit.Down.{Down as DownUnit}
use Rattle.haar_base.specs.declared.unit.Up.{Up as UpUnit}
use Rattle.haar_base.specs.declared.unit.Unit.{Unit}
use Rattle.haar_base.specs.declared.unit.Unit.TheVariants as unit
use Rattle.haar_base.specs.declared.value.Value.{Value}
use Rattle.haar_base.specs.declared.value.Value.TheVariants.{Done, Sum, Product, Lines, Count, Bad}
use Rattle.haar_base.specs.declared.decisions.Visit.{Visit}
use Rattle.haar_base.specs.declared.decisions.Visit.TheVariants as visits
use Rattle.haar_base.specs.declared.decisions.Combination.{Combination}
use Rattle.haar_base.specs.declared.decisions.Combination.TheVariants as combinations
use Rattle.haar_base.specs.Decisions.{bad_combination}
use Rattle.haar_base.specs.Operations.{operation_at, word_of, first_source, second_source}
use Rattle.haar_base.specs.Units.{label_of, side_reads, source_of, job_of}
use Rattle.haar_visits.specs.Visits.{visit, combine}
use Rattle.haar_visits.specs.Coarsening.{same, merged, branch, combine_coarsened}
use Rattle.haar_meaning.specs.PlannedJobs.{PlannedJob, IsPlannedJob, standing, version_of}
use Rattle.haar_meaning.specs.RightValues.{written_value}
use Rattle.haar_meaning.specs.RightCells.{IsRightCell}
use Rattle.haar_meaning.specs.JobUnits.{IsUnit, IsDownUnit, IsUpUnit, IsVisited}
use Rattle.haar_meaning.specs.RightDecisions.{IsRightVisit, IsRightCombination, IsRightGive}
use Rattle.haar_right.proofs.KnownLemmas.{if_before, if_some, source_is_before}
use Rattle.haar_right.proofs.PlanLemmas.{version_with, Coarsens, project_plan, refine_plan, coarsen_plan, compress_plan, reconstruct_plan, add_plan, mul_plan, inner_plan, print_plan}
use Rattle.haar_right.proofs.DecisionLemmas.{fits_of, visited_by, is_visited, given_before}
use Rattle.haar_right.proofs.SourceLemmas.{known_source}
use Rattle.haar_right.proofs.VisitLemmas.{visits_right, combinations_right}
use Rattle.haar_steps.specs.Forms.{told, visit_action, combination_action, action_of}
use Rattle.haar_steps.specs.Steps.{step_of, visit_of, combination_of, first_cell, second_cell, pair_of}
use Rattle.haar_steps.proofs.AllowedLemmas.{allowed, allowed_action, word_at_is}
use Rattle.haar_steps.proofs.HomeLemmas.{left_place}
use Rattle.haar_laws.specs.Laws.{AreRightFor}
use Rattle.haar_laws.proofs.UnitLemmas.{of_form, key_level, key_place}
use Rattle.haar_laws.proofs.RightLemmas.{both_read, both_given, known_is}
use Rattle.haar_lists.specs.Lists.{distribution, model_job, traversal, IsSound, SoundUnitsArePlanned}
use Rattle.haar_lists.proofs.JobLemmas.{job_is, deep}
use Rattle.haar_lists.proofs.SplitLemmas.{splits, units_split}

abbrev pub merges : Combination → Bool
merges (combinations.Give n v) = false
merges (combinations.Merge sum) = true

-- a unit of `coarsen` that keeps the children doesn't give a sum

abbrev gives_sum : Combination → Bool
gives_sum (combinations.Give n (Sum sum)) = true
gives_sum (combinations.Give n v) = false
gives_sum (combinations.Merge sum) = false

no_sum : (left right : Value) → gives_sum (combine_coarsened left right) ≡ false
no_sum (Sum half) (Sum other) = go (same half other)
  where
    small : (low : Bool) → gives_sum (if low then combinations.Merge (half +ℤ half) else bad_combination true) ≡ false
    small true = refl
    small false = refl

    go : (b : Bool) → gives_sum (if b then merged half else branch) ≡ false
    go true = small (nat_le (unsigned_abs half) (2 ^ 40))
    go false = refl
no_sum (Sum half) Done = refl
no_sum (Sum half) (Product product) = refl
no_sum (Sum half) (Lines rows) = refl
no_sum (Sum half) (Count count) = refl
no_sum (Sum half) Bad = refl
no_sum Done (Sum sum) = refl
no_sum Done Done = refl
no_sum Done (Product product) = refl
no_sum Done (Lines rows) = refl
no_sum Done (Count count) = refl
no_sum Done Bad = refl
no_sum (Product product) right = refl
no_sum (Lines rows) right = refl
no_sum (Count count) right = refl
no_sum Bad right = refl

module _ (job : PlannedJob) (planned : IsPlannedJob job) where
  abbrev T : Traversal
  T = traversal job

  abbrev J : DistributedJob
  J = job_of job.operations job.owners job.ranks

  -- each command on trees visits keys
  pub keys_there : (command : ℕ) (operation : Operation) → operation_at job.operations command ≡ Some operation → is_on_trees (word_of operation) ≡ true → (keys : Visits) × (keys_at job.depth job.commands command ≡ Some keys)
  keys_there command (Project function level tolerance) at on = (_, (project_plan job planned command function level tolerance (planned.plans command (Project function level tolerance) at)).visited)
  keys_there command (Refine level source) at on = (_, (refine_plan job planned command level source (planned.plans command (Refine level source) at)).visited)
  keys_there command (Coarsen source) at on = (_, (coarsen_plan job planned command source (planned.plans command (Coarsen source) at)).visited)
  keys_there command (Compress source) at on = (_, (compress_plan job planned command source (planned.plans command (Compress source) at)).visited)
  keys_there command (Reconstruct source) at on = (_, (reconstruct_plan job planned command source (planned.plans command (Reconstruct source) at)).visited)
  keys_there command (Add a left b right) at on = (_, (add_plan job planned command a left b right (planned.plans command (Add a left b right) at)).visited)
  keys_there command (Mul left right) at on = (_, (mul_plan job planned command left right (planned.plans command (Mul left right) at)).visited)
  keys_there command (Inner left right) at on = (_, (inner_plan job planned command left right (planned.plans command (Inner left right) at)).visited)
  keys_there command (Print source form name) at on = (_, (print_plan job planned command source form name (planned.plans command (Print source form name) at)).visited)
  keys_there command (Size source) at on = absurd (cc)
  keys_there command Fence at on = absurd (cc)

  -- what a command visits and erases at the left child of a key
  visits_left : (command : ℕ) (keys : Visits) → keys_at job.depth job.commands command ≡ Some keys → (k : Key) → k.at < 2 ^ k.level → T.visits command (2 * place_of k) ≡ keys.visited (child k false)
  visits_left command keys at k place =
      ap (T.visits command) (sym (left_place k)) ∙ ap (λ (o : Option Visits). option_map_or (λ keys. has_place keys.visited (place_of (child k false))) o false) at ∙ at_place keys.visited (child k false) (child_fits k.level k.at false place)

  erases_left : (command : ℕ) (keys : Visits) → keys_at job.depth job.commands command ≡ Some keys → (k : Key) → k.at < 2 ^ k.level → T.erases command (2 * place_of k) ≡ keys.erased (child k false)
  erases_left command keys at k place =
      ap (T.erases command) (sym (left_place k)) ∙ ap (λ (o : Option Visits). option_map_or (λ keys. has_place keys.erased (place_of (child k false))) o false) at ∙ at_place keys.erased (child k false) (child_fits k.level k.at false place)

  -- a down unit

  down_action : (u : DownUnit) (operation : Operation) → IsDownUnit job operation u → (v : Visit) → IsSound job u.command → IsRightVisit job u.command u.key v → (IsVisited job u.command (child u.key false) → splits v ≡ true)
      → visit_action v ≡ (if T.visits u.command (2 * place_of u.key) then Action.Descend else Action.Stop)
  down_action u operation is (visits.Give n v) sound right cut =
      let place = fits_of job.depth u.key is.key in
      let keys = keys_there u.command operation is.command.at is.command.on_trees in
      let none : T.visits u.command (2 * place_of u.key) ≡ false = false_from_ne_true (T.visits u.command (2 * place_of u.key)) (λ there.
      let split : false ≡ true = cut (visited_by job u.command operation (child u.key false) (child_fits u.key.level u.key.at false place) keys.0 keys.1 (λ before. sym (visits_left u.command keys.0 keys.1 u.key place) ∙ there)) in absurd (cc)) in
      sym (ap (λ (b : Bool). if b then Action.Descend else Action.Stop) none)
  down_action u operation is (visits.Split n left other held) sound right cut =
      let place = fits_of job.depth u.key is.key in
      let keys = keys_there u.command operation is.command.at is.command.on_trees in
      let there = is_visited job u.command operation (child u.key false) (child_fits u.key.level u.key.at false place) keys.0 keys.1 sound right.1.1.visited in
      sym (ap (λ (b : Bool). if b then Action.Descend else Action.Stop) (visits_left u.command keys.0 keys.1 u.key place ∙ there))

  pub down_is : (u : DownUnit) (given : Given Value Node) → IsUnit job (unit.Down u) → AreRightFor job (unit.Down u) given → IsSound job u.command
      → visit_action (visit_of job.depth job.operations u given.cells) ≡ action_at T (label_of (unit.Down u))
  down_is u given (operation, is) inputs sound =
      let known = known_is job u.command (nat_le u.key.level job.depth) operation is.command.at (le-leb u.key.level job.depth (key_level job.depth u.key is.key)) in
      let cells : AreRight (IsRightCell job) (side_reads u.first (first_source operation) u.key ++ side_reads u.second (second_source operation) u.key) given.cells =
      subst (λ o. AreRight (IsRightCell job) (side_reads u.first (source_of first_source o) u.key ++ side_reads u.second (source_of second_source o) u.key) given.cells) is.command.at inputs.cells in
      let reads = both_read job u.key (key_place job.depth u.key is.key) u.first u.second (first_source operation) (second_source operation) given.cells cells in
      let decided = visits_right operation job u (first_cell u.first given.cells) (second_cell u.first given.cells) planned is reads.0 reads.1 in
      let cut = units_split operation job u (first_cell u.first given.cells) (second_cell u.first given.cells) planned is reads.0 reads.1 sound in
      ap (λ (o : Operation). visit_action (visit job.depth o u.key (record { first = u.first; second = u.second }) (first_cell u.first given.cells) (second_cell u.first given.cells))) known
      ∙ down_action u operation is (visit job.depth operation u.key (record { first = u.first; second = u.second }) (first_cell u.first given.cells) (second_cell u.first given.cells)) sound decided cut

  -- an up unit

  word_is_at : (command : ℕ) (operation : Operation) → operation_at job.operations command ≡ Some operation → word_at (model_job job) command ≡ Some (word_of operation)
  word_is_at command operation at = ap (λ (d : DistributedJob). word_at d command) (sym (job_is job planned)) ∙ word_at_is job.operations job.owners job.ranks command operation at

  -- only `coarsen` erases
  coarsens : (u : UpUnit) (operation : Operation) → IsUpUnit job operation u → T.erases u.command (2 * place_of u.key) ≡ true → Some (word_of operation) ≡ Some CoarsenWord
  coarsens u operation is erased =
      let keys = keys_there u.command operation is.command.at is.command.on_trees in
      sym (word_is_at u.command operation is.command.at) ∙ (jobs_traversed (distribution job) job.depth job.commands u.command keys.0 keys.1).1.erases_in_coarsen (2 * place_of u.key) erased

  by_value : (u : UpUnit) (source : ℕ) (is : IsUpUnit job (Coarsen source) u) (sum : ℤ) → IsSound job u.command → (c : Combination) → gives_sum c ≡ false → IsRightCombination job u.command u.key c
      → ((v : Value) → IsRightGive job u.command u.key v → v ≡ Sum sum) → merges c ≡ true
  by_value u source is sum sound (combinations.Merge s) plain right meant = refl
  by_value u source is sum sound (combinations.Give n v) plain right meant =
      let no : true ≡ false = sym (ap (λ (w : Value). gives_sum (combinations.Give n w)) (meant v right.1)) ∙ plain in absurd (cc)

  coarsen_merges : (u : UpUnit) (source : ℕ) → IsUpUnit job (Coarsen source) u → (left right : Value) → IsRightCombination job u.command u.key (combine_coarsened left right) → IsSound job u.command
      → T.erases u.command (2 * place_of u.key) ≡ true → merges (combine_coarsened left right) ≡ true
  coarsen_merges u source is left right decided sound erased =
      by_value u source is (box_sum p.tree u.key) sound (combine_coarsened left right) (no_sum left right) decided
      (λ v given. if_some (λ (w : Version). v ≡ written_value (Coarsen source) w.tree u.key) (version_of job u.command) (version_with Reconstructed (coarsened p.tree)) p.written
      (given_before job u.command (Coarsen source) u.key place is.command.at v sound given)
      ∙ ap (λ (b : Bool). if b then Sum (box_sum p.tree u.key) else Done) constant)
    where
      p : Coarsens job planned u.command source
      p = coarsen_plan job planned u.command source (planned.plans u.command (Coarsen source) is.command.at)

      place : u.key.at < 2 ^ u.key.level
      place = fits_of job.depth u.key is.key

      constant : is_constant p.tree u.key ≡ true
      constant =
          let early = source_is_before job u.command source p.earlier (λ late. absurd (let s = sound in cc)) in
          let known = known_source job Reconstructed source p.tree planned early p.read in
          let key_in : is_key_of p.tree.depth u.key ≡ true = subst (λ (d : ℕ). is_key_of d u.key ≡ true) (sym known.depth_is) is.key in
          let above : u.key.level < p.tree.depth = subst (λ (d : ℕ). u.key.level < d) (sym known.depth_is) is.above in
          let gone = and_parts (p.tree.shape (child u.key false)) (not ((coarsened p.tree).shape (child u.key false))) (sym (erases_left u.command (over_coarsened p.tree) p.visited u.key place) ∙ erased) in
          not_not (is_constant p.tree u.key) (sym (coarsened_children p.tree u.key false key_in above) ∙ not-true ((coarsened p.tree).shape (child u.key false)) gone.1)
        where
          not_not : (b : Bool) → not b ≡ false → b ≡ true
          not_not true e = refl
          not_not false e = absurd (cc)

  merges_right : (operation : Operation) (u : UpUnit) → IsUpUnit job operation u → (left right : Value) → IsRightCombination job u.command u.key (combine job.depth operation u.key u.held left right) → IsSound job u.command
      → T.erases u.command (2 * place_of u.key) ≡ true → merges (combine job.depth operation u.key u.held left right) ≡ true
  merges_right (Coarsen source) u is left right decided sound erased = coarsen_merges u source is left right decided sound erased
  merges_right (Project function level tolerance) u is left right decided sound erased = absurd (let no = coarsens u (Project function level tolerance) is erased in cc)
  merges_right (Refine level source) u is left right decided sound erased = absurd (let no = coarsens u (Refine level source) is erased in cc)
  merges_right (Compress source) u is left right decided sound erased = absurd (let no = coarsens u (Compress source) is erased in cc)
  merges_right (Reconstruct source) u is left right decided sound erased = absurd (let no = coarsens u (Reconstruct source) is erased in cc)
  merges_right (Add a l b r) u is left right decided sound erased = absurd (let no = coarsens u (Add a l b r) is erased in cc)
  merges_right (Mul l r) u is left right decided sound erased = absurd (let no = coarsens u (Mul l r) is erased in cc)
  merges_right (Inner l r) u is left right decided sound erased = absurd (let no = coarsens u (Inner l r) is erased in cc)
  merges_right (Print source form name) u is left right decided sound erased = absurd (let no = coarsens u (Print source form name) is erased in cc)
  merges_right (Size source) u is left right decided sound erased = absurd (let no = coarsens u (Size source) is erased in cc)
  merges_right Fence u is left right decided sound erased = absurd (let no = coarsens u Fence is erased in cc)

  up_action : (u : UpUnit) (operation : Operation) → IsUpUnit job operation u → (c : Combination) → IsSound job u.command → IsRightCombination job u.command u.key c → (T.erases u.command (2 * place_of u.key) ≡ true → merges c ≡ true)
      → combination_action c ≡ (if T.erases u.command (2 * place_of u.key) then Action.Merge else Action.Combine)
  up_action u operation is (combinations.Give n v) sound right merge =
      let none : T.erases u.command (2 * place_of u.key) ≡ false = false_from_ne_true (T.erases u.command (2 * place_of u.key)) (λ erased. let no : false ≡ true = merge erased in absurd (cc)) in
      sym (ap (λ (b : Bool). if b then Action.Merge else Action.Combine) none)
  up_action u operation is (combinations.Merge sum) sound right merge =
      let place = fits_of job.depth u.key is.key in
      let keys = keys_there u.command operation is.command.at is.command.on_trees in
      let erased : keys.0.erased (child u.key false) ≡ true = if_some (λ (v : Visits). v.erased (child u.key false) ≡ true) (keys_at job.depth job.commands u.command) keys.0 keys.1 (if_before (standing job u.command) sound right.1.1.erased) in
      sym (ap (λ (b : Bool). if b then Action.Merge else Action.Combine) (erases_left u.command keys.0 keys.1 u.key place ∙ erased))

  pub up_is : (u : UpUnit) (given : Given Value Node) → IsUnit job (unit.Up u) → AreRightFor job (unit.Up u) given → IsSound job u.command
      → combination_action (combination_of job.depth job.operations u given.values) ≡ action_at T (label_of (unit.Up u))
  up_is u given (operation, is) inputs sound =
      let known = known_is job u.command (nat_lt u.key.level job.depth) operation is.command.at (lt-ltb u.key.level job.depth is.above) in
      let both = both_given job u.command u.key given.values inputs.values in
      let decided = combinations_right operation job u (pair_of given.values).0 (pair_of given.values).1 planned is both.0 both.1 in
      ap (λ (o : Operation). combination_action (combine job.depth o u.key u.held (pair_of given.values).0 (pair_of given.values).1)) known
      ∙ up_action u operation is (combine job.depth operation u.key u.held (pair_of given.values).0 (pair_of given.values).1) sound decided
      (merges_right operation u is (pair_of given.values).0 (pair_of given.values).1 decided sound)

  -- all units

  by_action : (l : Label) (os : List Outline) (a : Allowed J l os) → a.action ≡ action_at T l → os ≡ plan J T l
  by_action l os a same = a.lists ∙ (λ i. outlines_of J a.operation (same i) l.command l.place) ∙ sym (ap (plan_if J T l) a.at)

  pub unit_is_planned : (u : Unit) (given : Given Value Node) → IsUnit job u → AreRightFor job u given → IsSound job (label_of u).command
      → told job.owners job.ranks (step_of job.depth job.operations u given) ≡ plan J T (label_of u)
  unit_is_planned u given is inputs sound =
      by_action (label_of u) (told job.owners job.ranks (step_of job.depth job.operations u given))
      (allowed job.depth job.operations job.owners job.ranks job.ranks u given (deep job planned) planned.ranks (of_form job u is)) (by_unit u is inputs sound)
    where
      action : (u : Unit) (is : IsUnit job u)
          → (allowed job.depth job.operations job.owners job.ranks job.ranks u given (deep job planned) planned.ranks (of_form job u is)).action ≡ action_of job.depth job.operations u given
      action u is = allowed_action job.depth job.operations job.owners job.ranks job.ranks u given (deep job planned) planned.ranks (of_form job u is)

      by_unit : (u : Unit) (is : IsUnit job u) → AreRightFor job u given → IsSound job (label_of u).command
          → (allowed job.depth job.operations job.owners job.ranks job.ranks u given (deep job planned) planned.ranks (of_form job u is)).action ≡ action_at T (label_of u)
      by_unit (unit.Down u) is inputs sound = action (unit.Down u) is ∙ down_is u given is inputs sound
      by_unit (unit.Up u) is inputs sound = action (unit.Up u) is ∙ up_is u given is inputs sound
      by_unit (unit.Clear command key) is inputs sound = action (unit.Clear command key) is
      by_unit (unit.Count command rank) is inputs sound = action (unit.Count command rank) is
      by_unit (unit.Total command ranks) is inputs sound = action (unit.Total command ranks) is

pub units_planned : SoundUnitsArePlanned
units_planned job command planned sound p os of spawned (u, given, is, same, right, e) =
    let here : (label_of u).command ≡ command = ap (λ (l : Label). l.command) same ∙ of in
    e
    ∙ unit_is_planned job planned u given is right (ap (standing job) here ∙ sound)
    ∙ ap (plan (job_of job.operations job.owners job.ranks) (traversal job)) same
    ∙ ap (λ (d : DistributedJob). plan d (traversal job) p) (job_is job planned)
