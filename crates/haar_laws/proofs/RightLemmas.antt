-- Lemmas that crates above use: on right inputs each effect of a unit is right.
use Rattle.std.proofs.Common.{◌≡◌, ℕ, zero, suc, ◌+◌, ◌^◌, ◌≤◌, ◌<◌, Bool, true, false, if◌then◌else◌, List, [], ◌∷◌, ◌++◌, Option, Some, None, refl, sym, ap, ◌∙◌, subst, arith, nat_lt, nat_le, leb-true, length-take}
use Rattle.std.specs.Prelude.{slice_get, take}
use Rattle.std.specs.List.{AllByRecursion}
use Rattle.std.proofs.lemmas.Bool.{cond-true, lt-ltb, le-leb}
use Rattle.app_core.specs.Given.{Given}
use Rattle.app_core.specs.Homes.{rank_within}
use Rattle.app_core.specs.Inputs.{AreRight, IsRightSize as IsSizeRight}
use Rattle.app_core.specs.Effects.{IsRightEffect}
use Rattle.tree_key.specs.Keys.{Key, child, place_of}
use Rattle.tree_model.specs.Commands.{Command}
use Rattle.haar_node.specs.declared.Node.{Node}
use Rattle.haar_units.specs.Places.{key_at}
use Rattle.haar_units.specs.Units.{key_future, count_future, entry}
use Rattle.haar_units.proofs.PlaceLemmas.{keys_have_places}
use Rattle.haar_base.specs.declared.unit.Side.{Side}
use Rattle.haar_base.specs.declared.unit.Side.TheVariants.{Nothing, Entry, Below}
use Rattle.haar_base.specs.declared.unit.Sides.{Sides}
use Rattle.haar_base.specs.declared.unit.Held.{Held}
use Rattle.haar_base.specs.declared.unit.Down.{Down as DownUnit}
use Rattle.haar_base.specs.declared.unit.Up.{Up as UpUnit}
use Rattle.haar_base.specs.declared.unit.Unit.{Unit}
use Rattle.haar_base.specs.declared.unit.Unit.TheVariants as unit
use Rattle.haar_base.specs.declared.value.Value.{Value}
use Rattle.haar_base.specs.declared.value.Value.TheVariants as value
use Rattle.haar_base.specs.declared.operation.Operation.{Operation}
use Rattle.haar_base.specs.declared.operation.Operation.TheVariants as operations
use Rattle.haar_base.specs.declared.decisions.Visit.{Visit}
use Rattle.haar_base.specs.declared.decisions.Visit.TheVariants as visits
use Rattle.haar_base.specs.declared.decisions.Combination.{Combination}
use Rattle.haar_base.specs.declared.decisions.Combination.TheVariants as combinations
use Rattle.haar_base.specs.Operations.{operation_at, first_source, second_source}
use Rattle.haar_base.specs.Units.{side_reads, source_of, counted_by}
use Rattle.haar_meaning.specs.PlannedJobs.{PlannedJob, IsPlannedJob, HasPlan, Standing, standing, version_of}
use Rattle.haar_meaning.specs.PlannedJobs.Standing.{Before, After}
use Rattle.haar_meaning.specs.RightValues.{IsRightValue, IsCounted, rank_count}
use Rattle.haar_meaning.specs.RightCells.{IsRightCell, IsRightSize, IsStored}
use Rattle.haar_meaning.specs.JobUnits.{IsUnit, IsDownUnit, IsUpUnit}
use Rattle.haar_meaning.specs.RightDecisions.{IsRightVisit, IsRightCombination, IsRightGive}
use Rattle.haar_right.specs.Laws.{IsRightRead, VisitsAreRight, CombinationsAreRight}
use Rattle.haar_visits.specs.Visits.{visit, combine}
use Rattle.haar_right.proofs.PlanLemmas.{version_below}
use Rattle.haar_right.proofs.VisitLemmas.{visits_right, combinations_right}
use Rattle.haar_right.proofs.KnownLemmas.{if_before, before_if, if_some, some_if, source_is_before}
use Rattle.haar_steps.specs.Effects.{HaarEffect, puts, gives, split_effects, visit_effects, combination_effects}
use Rattle.haar_steps.specs.Steps.{step_of, known_by, first_cell, second_cell, pair_of, visit_of, combination_of}
use Rattle.haar_laws.specs.Laws.{AreRightFor, StepsAreRight}
use Rattle.haar_steps.proofs.HomeLemmas.{rank_stays}
use Rattle.haar_laws.proofs.TotalLemmas.{is_size, totals_right}
use Rattle.haar_laws.proofs.UnitLemmas.{key_level, key_place}

module _ (job : PlannedJob) where
  abbrev Right : List HaarEffect → Type 0
  Right es = AllByRecursion (IsRightEffect (IsRightValue job) (IsRightCell job) (IsUnit job)) es

  -- what is read

  module _ (key : Key) (place : key.at < 2 ^ key.level) where
    stored : (version : ℕ) (cell : Node) → IsRightCell job (entry version (place_of key)) cell → IsStored job version key cell
    stored version cell r = subst (λ k. IsStored job version k cell) (keys_have_places key place) r

    second_read : (second : Side) (version : ℕ) (cells : List Node) → AreRight (IsRightCell job) (side_reads second version key) cells → IsRightRead job version key second (slice_get cells 0)
    second_read Nothing version cells r = tt
    second_read (Entry known) version [] r = absurd r
    second_read (Entry known) version (c ∷ cells) r = stored version c r.0
    second_read (Below sum) version cells r = tt

    pub both_read : (first second : Side) (one other : ℕ) (cells : List Node) → AreRight (IsRightCell job) (side_reads first one key ++ side_reads second other key) cells
        → IsRightRead job one key first (first_cell first cells) × IsRightRead job other key second (second_cell first cells)
    both_read Nothing second one other cells r = (tt, second_read second other cells r)
    both_read (Entry known) second one other [] r = absurd r
    both_read (Entry known) second one other (c ∷ cells) r = (stored one c r.0, second_read second other cells r.1)
    both_read (Below sum) second one other cells r = (tt, second_read second other cells r)

  -- effects of right decisions

  module _ (command : ℕ) (key : Key) (deep : job.depth ≤ 16) where
    split_right : (n : Option Node) (left right : Sides) (held : Held) → IsRightVisit job command key (visits.Split n left right held) → Right (puts command key n ++ split_effects command key left right held)
    split_right None left right held r = (r.1, (r.2, (r.3, tt)))
    split_right (Some n) left right held r = (r.0, (r.1, (r.2, (r.3, tt))))

    visit_right : (v : Visit) → IsRightVisit job command key v → Right (visit_effects command key v)
    visit_right (visits.Give None value) r = (r.1, tt)
    visit_right (visits.Give (Some n) value) r = (r.0, (r.1, tt))
    visit_right (visits.Split n left right held) r =
        let above : key.level < job.depth = r.3.1.above in
        let level : key.level < 16 = omega (arith, above, deep) in
        subst Right (sym (cond-true (nat_lt key.level 16) (puts command key n ++ split_effects command key left right held) _ (lt-ltb key.level 16 level))) (split_right n left right held r)

    combination_right : key.level < 16 → (c : Combination) → IsRightCombination job command key c → Right (combination_effects command key c)
    combination_right level (combinations.Give None value) r = (r.1, tt)
    combination_right level (combinations.Give (Some n) value) r = (r.0, (r.1, tt))
    combination_right level (combinations.Merge sum) r = subst Right (sym (cond-true (nat_lt key.level 16) _ _ (lt-ltb key.level 16 level))) (r.0, (r.1, (r.2, (r.3, tt))))

  pub known_is : (command : ℕ) (there : Bool) (operation : Operation) → operation_at job.operations command ≡ Some operation → there ≡ true → known_by there (operation_at job.operations command) ≡ operation
  known_is command there operation at is = λ i. known_by (is i) (at i)

  pub both_given : (command : ℕ) (key : Key) (values : List Value) → AreRight (IsRightValue job) (key_future command (place_of (child key false)) ∷ key_future command (place_of (child key true)) ∷ []) values
      → IsRightGive job command (child key false) (pair_of values).0 × IsRightGive job command (child key true) (pair_of values).1
  both_given command key [] r = absurd r
  both_given command key (a ∷ []) r = absurd r.1
  both_given command key (a ∷ b ∷ []) r = (r.0, r.1.0)
  both_given command key (a ∷ b ∷ c ∷ values) r = absurd r.1.1

  module _ (planned : IsPlannedJob job) (deep : job.depth ≤ 16) where
    pub down_right : VisitsAreRight → (u : DownUnit) (given : Given Value Node) → IsUnit job (unit.Down u) → AreRightFor job (unit.Down u) given → Right (visit_effects u.command u.key (visit_of job.depth job.operations u given.cells))
    down_right right u given (operation, is) inputs =
        let known = known_is u.command (nat_le u.key.level job.depth) operation is.command.at (le-leb u.key.level job.depth (key_level job.depth u.key is.key)) in
        let cells : AreRight (IsRightCell job) (side_reads u.first (first_source operation) u.key ++ side_reads u.second (second_source operation) u.key) given.cells =
        subst (λ o. AreRight (IsRightCell job) (side_reads u.first (source_of first_source o) u.key ++ side_reads u.second (source_of second_source o) u.key) given.cells) is.command.at inputs.cells in
        let reads = both_read u.key (key_place job.depth u.key is.key) u.first u.second (first_source operation) (second_source operation) given.cells cells in
        let decided = right operation job u (first_cell u.first given.cells) (second_cell u.first given.cells) planned is reads.0 reads.1 in
        visit_right u.command u.key deep (visit_of job.depth job.operations u given.cells)
        (subst (λ o. IsRightVisit job u.command u.key (visit job.depth o u.key (record { first = u.first; second = u.second }) (first_cell u.first given.cells) (second_cell u.first given.cells))) (sym known) decided)

    pub up_right : CombinationsAreRight → (u : UpUnit) (given : Given Value Node) → IsUnit job (unit.Up u) → AreRightFor job (unit.Up u) given → Right (combination_effects u.command u.key (combination_of job.depth job.operations u given.values))
    up_right right u given (operation, is) inputs =
        let known = known_is u.command (nat_lt u.key.level job.depth) operation is.command.at (lt-ltb u.key.level job.depth is.above) in
        let both = both_given u.command u.key given.values inputs.values in
        let decided = right operation job u (pair_of given.values).0 (pair_of given.values).1 planned is both.0 both.1 in
        let above = is.above in
        combination_right u.command u.key deep (omega (arith, above, deep)) (combination_of job.depth job.operations u given.values)
        (subst (λ o. IsRightCombination job u.command u.key (combine job.depth o u.key u.held (pair_of given.values).0 (pair_of given.values).1)) (sym known) decided)

-- counts

pub size_earlier : (cs : List Command) (number source : ℕ) → HasPlan cs number (operations.Size source) → source < number
size_earlier cs zero source p = absurd (some_none (p.at))
  where
    some_none : {c : Command} → None ≡ Some c → ⊥
    some_none e = cc
size_earlier cs (suc n) source p =
    let size = is_size (take n cs) source p.command p.plan in
    let few = length-take n cs in
    subst (λ (v : ℕ). v < suc n) size.read (version_below 1 0 (suc n) (take n cs) size.name (omega arith) (omega (arith, few)))

not_after : Before ≡ After → ⊥
not_after e = cc

count_right : (job : PlannedJob) → IsPlannedJob job → (command rank : ℕ) (given : Given Value Node) → IsUnit job (unit.Count command rank) → AreRightFor job (unit.Count command rank) given
    → IsRightValue job (count_future command rank) (value.Count given.size)
count_right job planned command rank given (source, is) inputs = before_if (standing job command) (λ before.
    let earlier = size_earlier job.commands command source (planned.plans command (operations.Size source) is.at) in
    let source_before = source_is_before job command source earlier (λ after. not_after (sym before ∙ after)) in
    let home : rank_within job.ranks (Some rank) ≡ rank = rank_stays job.ranks rank is.within in
    let size : IsRightSize job rank source given.size =
    subst (λ (r : ℕ). IsRightSize job r source given.size) home (subst (λ o. IsSizeRight (IsRightSize job) (rank_within job.ranks (Some rank)) (counted_by o) given.size) is.at inputs.size) in
    let known = if_before (standing job source) source_before size in
    subst (λ o. IsCounted job o rank (value.Count given.size)) (sym is.at)
    (some_if (λ version. value.Count given.size ≡ value.Count (rank_count job version rank)) (version_of job source)
    (λ version there. ap value.Count (if_some (λ w. given.size ≡ rank_count job w rank) (version_of job source) version there known))))

-- steps

pub steps_right : StepsAreRight
steps_right job u given planned is inputs = by_unit u is inputs
  where
    deep : job.depth ≤ 16
    deep = leb-true job.depth 16 planned.checked.depth

    by_unit : (u : Unit) → IsUnit job u → AreRightFor job u given → AllByRecursion (IsRightEffect (IsRightValue job) (IsRightCell job) (IsUnit job)) (step_of job.depth job.operations u given)
    by_unit (unit.Down u) is inputs = down_right job planned deep visits_right u given is inputs
    by_unit (unit.Up u) is inputs = up_right job planned deep combinations_right u given is inputs
    by_unit (unit.Clear command key) is inputs = (tt, tt)
    by_unit (unit.Count command rank) is inputs = (count_right job planned command rank given is inputs, tt)
    by_unit (unit.Total command ranks) is inputs = (totals_right job command ranks given planned is inputs, tt)
