-- What units do is allowed by their labels.
use Rattle.std.proofs.Common.{◌≡◌, ℕ, zero, suc, ◌+◌, ◌*◌, ◌/◌, ◌^◌, ◌≤◌, ◌<◌, Bool, true, false, if◌then◌else◌, ◌||◌, List, [], ◌∷◌, ◌++◌, map, Option, Some, None, refl, sym, ap, ◌∙◌, subst, arith, nat_lt, nat_le, ℤ}
use Rattle.std.specs.Prelude.{is_some, slice_get}
use Rattle.std.specs.Option.{option_map}
use Rattle.std.proofs.lemmas.Bool.{cond-true, cond-false, lt-ltb, le-leb}
use Rattle.std.proofs.lemmas.Option.{slice_get-map}
use Rattle.std.proofs.lemmas.List.{map-append}
use Rattle.app_core.specs.Given.{Given}
use Rattle.app_core.specs.Homes.{rank_within}
use Rattle.app_core.specs.Commands.{IsRankCount}
use Rattle.app_core.specs.declared.Label.{Label}
use Rattle.app_core.specs.declared.Effect.TheVariants.{Spawn, SpawnNeeding, Give, Put, Erase}
use Rattle.app_core.specs.Outlines.{outline}
use Rattle.app_core.specs.declared.Outline.{Outline}
use Rattle.app_core.specs.declared.Outline.TheVariants as of
use Rattle.tree_key.specs.Keys.{Key, root, child, place_of}
use Rattle.owner_map.specs.declared.OwnerMap.{OwnerMap}
use Rattle.owner_map.specs.Owners.{owner}
use Rattle.haar_node.specs.declared.Node.{Node}
use Rattle.haar_units.specs.Jobs.{DistributedJob, is_on_trees, is_coarsen, is_size, puts_down, puts_up}
use Rattle.haar_units.specs.Jobs.{Operation as Word, operation_at as word_at}
use Rattle.haar_units.specs.Actions.{Action, Allowed, fits, part_of, puts_first, rest_of, outlines_of}
use Rattle.haar_units.specs.Units.{key_future, down_unit, up_unit, erase_unit, entry, count_future, count_unit, count_futures, sum_unit, future_home}
use Rattle.haar_units.specs.Starts.{starts, count_starts, starts_if as word_starts}
use Rattle.haar_base.specs.declared.unit.Side.{Side}
use Rattle.haar_base.specs.declared.unit.Sides.{Sides}
use Rattle.haar_base.specs.declared.unit.Held.{Held}
use Rattle.haar_base.specs.declared.unit.Unit.{Unit}
use Rattle.haar_base.specs.declared.unit.Unit.TheVariants.{Down, Up, Clear, Count, Total}
use Rattle.haar_base.specs.declared.value.Value.{Value}
use Rattle.haar_base.specs.declared.value.Value.TheVariants as value
use Rattle.haar_base.specs.declared.operation.Operation.{Operation}
use Rattle.haar_base.specs.declared.operation.Operation.TheVariants as operations
use Rattle.haar_base.specs.declared.decisions.Visit.{Visit}
use Rattle.haar_base.specs.declared.decisions.Visit.TheVariants as visits
use Rattle.haar_base.specs.declared.decisions.Combination.{Combination}
use Rattle.haar_base.specs.declared.decisions.Combination.TheVariants as combinations
use Rattle.haar_base.specs.Operations.{operation_at, word_of}
use Rattle.haar_base.specs.Units.{label_of, due_of, home_of, kept_at, job_of}
use Rattle.haar_visits.specs.Visits.{visit, combine}
use Rattle.haar_visits.specs.Forms.{IsVisitOf, IsCombinationOf}
use Rattle.haar_visits.proofs.FormLemmas.{visited, combined}
use Rattle.haar_steps.specs.Effects.{HaarEffect, puts, gives, spawn_down, spawn_up, spawn_clear, split_effects, visit_effects, combination_effects}
use Rattle.haar_steps.specs.Starts.{starting_of, starts_if, starts_by, spawn_counts, size_starts}
use Rattle.haar_steps.specs.Steps.{step_of, visit_of, combination_of, known_by, first_cell, second_cell, pair_of}
use Rattle.haar_steps.specs.Forms.{IsAt, IsSizing, IsOfForm, visit_action, combination_action, action_of, told, StepsAreAllowed, StartsAreTold}
use Rattle.haar_steps.proofs.HomeLemmas.{rank_stays, least_place, place_below, left_place, right_place, left_within, right_within, key_home, future_kept}

-- the word of a command is that of its operation
pub word_at_is : (ops : List Operation) (owners : OwnerMap) (ranks command : ℕ) (operation : Operation) → operation_at ops command ≡ Some operation → word_at (job_of ops owners ranks) command ≡ Some (word_of operation)
word_at_is ops owners ranks zero operation at = absurd (cc)
word_at_is ops owners ranks (suc before) operation at = slice_get-map word_of ops before ∙ ap (option_map word_of) at

module _ (ops : List Operation) (owners : OwnerMap) (ranks : ℕ) (some : 1 ≤ ranks) where
  abbrev job : DistributedJob
  job = job_of ops owners ranks

  put_first : (command : ℕ) (key : Key) (n : Option Node) (b : Bool) (es : List HaarEffect) (rest : List Outline) → is_some n ≡ b → told owners ranks es ≡ rest
      → told owners ranks (puts command key n ++ es) ≡ (if b then of.Put (entry command (place_of key)) ∷ rest else rest)
  put_first command key None b es rest form same = same ∙ sym (cond-false b (of.Put (entry command (place_of key)) ∷ rest) rest (sym form))
  put_first command key (Some n) b es rest form same = ap (λ os. of.Put (entry command (place_of key)) ∷ os) same ∙ sym (cond-true b (of.Put (entry command (place_of key)) ∷ rest) rest (sym form))

  module _ (command : ℕ) (key : Key) (few : key.level ≤ 16) (within : key.at < 2 ^ key.level) where
    kept : kept_at owners (key_future command (place_of key)) ranks ≡ future_home job (key_future command (place_of key))
    kept = future_kept owners (place_of key) ranks some (place_below key few within)

    given_told : (value : Value) → told owners ranks (gives command key value ∷ []) ≡ of.Give (key_future command (place_of key)) (future_home job (key_future command (place_of key))) ∷ []
    given_told value = ap (λ (rank : ℕ). of.Give (key_future command (place_of key)) rank ∷ []) kept

    left_home : rank_within ranks (Some (owner owners (child key false) ranks)) ≡ job.owner (2 * place_of key)
    left_home = key_home owners (child key false) ranks some (left_within key within) ∙ ap job.owner (left_place key)

    right_home : rank_within ranks (Some (owner owners (child key true) ranks)) ≡ job.owner (2 * place_of key + 1)
    right_home = key_home owners (child key true) ranks some (right_within key within) ∙ ap job.owner (right_place key)

    own_home : rank_within ranks (Some (owner owners key ranks)) ≡ job.owner (place_of key)
    own_home = key_home owners key ranks some within

    split_told : (left right : Sides) (held : Held) → told owners ranks (split_effects command key left right held) ≡ rest_of job Action.Descend command (place_of key)
    split_told left right held = λ i.
        of.Spawn (down_unit command (left_place key i)) (Some (key_future command (left_place key i))) [] (left_home i)
        ∷ of.Spawn (down_unit command (right_place key i)) (Some (key_future command (right_place key i))) [] (right_home i)
        ∷ of.Spawn (up_unit command (place_of key)) (Some (key_future command (place_of key))) (key_future command (left_place key i) ∷ key_future command (right_place key i) ∷ []) (own_home i) ∷ []

    visit_told : (depth : ℕ) → depth ≤ 16 → (word : Word) (v : Visit) → IsVisitOf depth key word v → told owners ranks (visit_effects command key v) ≡ outlines_of job word (visit_action v) command (place_of key)
    visit_told depth deep word (visits.Give n value) form = put_first command key n (puts_down word || puts_up word) (gives command key value ∷ []) _ form (given_told value)
    visit_told depth deep word (visits.Split n left right held) form =
        let level : key.level < 16 = omega (arith, form.1, deep) in
        ap (told owners ranks) (cond-true (nat_lt key.level 16) (puts command key n ++ split_effects command key left right held) _ (lt-ltb key.level 16 level))
        ∙ put_first command key n (puts_down word) (split_effects command key left right held) _ form.0 (split_told left right held)

    merge_told : (sum : ℤ) → told owners ranks (spawn_clear command (child key false) ∷ spawn_clear command (child key true) ∷ gives command key (value.Sum sum) ∷ []) ≡ rest_of job Action.Merge command (place_of key)
    merge_told sum = λ i.
        of.Spawn (erase_unit command (left_place key i)) None [] (left_home i)
        ∷ of.Spawn (erase_unit command (right_place key i)) None [] (right_home i)
        ∷ of.Give (key_future command (place_of key)) (kept i) ∷ []

    combination_told : key.level < 16 → (word : Word) (c : Combination) → IsCombinationOf word c → told owners ranks (combination_effects command key c) ≡ outlines_of job word (combination_action c) command (place_of key)
    combination_told level word (combinations.Give n value) form = put_first command key n (puts_up word) (gives command key value ∷ []) _ form (given_told value)
    combination_told level word (combinations.Merge sum) form =
        ap (told owners ranks) (cond-true (nat_lt key.level 16) _ _ (lt-ltb key.level 16 level))
        ∙ ap (λ os. of.Put (entry command (place_of key)) ∷ os) (merge_told sum)

-- what a unit's command does at its key
known_is : (ops : List Operation) (command : ℕ) (there : Bool) (operation : Operation) → operation_at ops command ≡ Some operation → there ≡ true → known_by there (operation_at ops command) ≡ operation
known_is ops command there operation at is = (λ i. known_by (is i) (at i))

pub allowed : StepsAreAllowed
allowed depth ops owners made ranks (Down u) given deep count form =
    let few : u.key.level ≤ 16 = omega (arith, form.within, deep) in
    let known = known_is ops u.command (nat_le u.key.level depth) form.operation form.at (le-leb u.key.level depth form.within) in
    let is : IsVisitOf depth u.key (word_of form.operation) (visit_of depth ops u given.cells) =
    subst (λ op. IsVisitOf depth u.key (word_of form.operation) (visit depth op u.key (record { first = u.first; second = u.second }) (first_cell u.first given.cells) (second_cell u.first given.cells)))
    (sym known) (visited depth form.operation u.key (record { first = u.first; second = u.second }) (first_cell u.first given.cells) (second_cell u.first given.cells) form.one) in
    record {
      operation = word_of form.operation;
      at = word_at_is ops owners ranks u.command form.operation form.at;
      action = visit_action (visit_of depth ops u given.cells);
      fit = on_trees (word_of form.operation) (visit_of depth ops u given.cells) form.one;
      part = part (visit_of depth ops u given.cells);
      key = λ _. least_place u.key;
      lists = visit_told ops owners ranks count.0 u.command u.key few form.place depth deep (word_of form.operation) (visit_of depth ops u given.cells) is;
    }
  where
    on_trees : (word : Word) (v : Visit) → is_on_trees word ≡ true → fits word (visit_action v) ≡ true
    on_trees word (visits.Give n value) on = on
    on_trees word (visits.Split n left right held) on = on

    part : (v : Visit) → 0 ≡ part_of (visit_action v)
    part (visits.Give n value) = refl
    part (visits.Split n left right held) = refl
allowed depth ops owners made ranks (Up u) given deep count form =
    let at = form.0 in
    let level : u.key.level < 16 = omega (arith, form.1, deep) in
    let known = known_is ops u.command (nat_lt u.key.level depth) at.operation at.at (lt-ltb u.key.level depth form.1) in
    let is : IsCombinationOf (word_of at.operation) (combination_of depth ops u given.values) =
    subst (λ op. IsCombinationOf (word_of at.operation) (combine depth op u.key u.held (pair_of given.values).0 (pair_of given.values).1))
    (sym known) (combined depth at.operation u.key u.held (pair_of given.values).0 (pair_of given.values).1 at.one) in
    record {
      operation = word_of at.operation;
      at = word_at_is ops owners ranks u.command at.operation at.at;
      action = combination_action (combination_of depth ops u given.values);
      fit = fit (word_of at.operation) (combination_of depth ops u given.values) at.one is;
      part = part (combination_of depth ops u given.values);
      key = λ _. least_place u.key;
      lists = combination_told ops owners ranks count.0 u.command u.key (omega (arith, level)) at.place level (word_of at.operation) (combination_of depth ops u given.values) is;
    }
  where
    fit : (word : Word) (c : Combination) → is_on_trees word ≡ true → IsCombinationOf word c → fits word (combination_action c) ≡ true
    fit word (combinations.Give n value) on form = on
    fit word (combinations.Merge sum) on form = form

    part : (c : Combination) → 1 ≡ part_of (combination_action c)
    part (combinations.Give n value) = refl
    part (combinations.Merge sum) = refl
allowed depth ops owners made ranks (Clear command key) given deep count form = record {
  operation = word_of form.operation;
  at = word_at_is ops owners ranks command form.operation form.at;
  action = Action.Erase;
  fit = form.one;
  part = refl;
  key = λ _. least_place key;
  lists = refl;
}
allowed depth ops owners made ranks (Count command rank) given deep count form = record {
  operation = word_of form.0.operation;
  at = word_at_is ops owners ranks command form.0.operation form.0.at;
  action = Action.Count;
  fit = form.0.size;
  part = refl;
  key = λ few. absurd (omega (arith, few));
  lists = refl;
}
allowed depth ops owners made ranks (Total command number) given deep count form = record {
  operation = word_of form.0.operation;
  at = word_at_is ops owners ranks command form.0.operation form.0.at;
  action = Action.Sum;
  fit = form.0.size;
  part = refl;
  key = λ few. absurd (omega (arith, few));
  lists = refl;
}

-- and the action is what they decide for
pub allowed_action : (depth : ℕ) (ops : List Operation) (owners : OwnerMap) (made ranks : ℕ) (u : Unit) (given : Given Value Node) (deep : depth ≤ 16) (count : IsRankCount ranks) (form : IsOfForm depth ops made u)
    → (allowed depth ops owners made ranks u given deep count form).action ≡ action_of depth ops u given
unfolding allowed
allowed_action depth ops owners made ranks (Down u) given deep count form = refl
allowed_action depth ops owners made ranks (Up u) given deep count form = refl
allowed_action depth ops owners made ranks (Clear command key) given deep count form = refl
allowed_action depth ops owners made ranks (Count command rank) given deep count form = refl
allowed_action depth ops owners made ranks (Total command number) given deep count form = refl

-- starts

module _ (owners : OwnerMap) (ranks : ℕ) where
  counts_told : (command first n : ℕ) → first + n ≤ ranks → told owners ranks (spawn_counts command first n) ≡ count_starts command first n
  counts_told command first zero few = refl
  counts_told command first (suc n) few = λ i.
      of.Spawn (count_unit command first) (Some (count_future command first)) [] (rank_stays ranks first (omega (arith, few)) i)
      ∷ counts_told command (suc first) n (omega (arith, few)) i

started : (ops : List Operation) (owners : OwnerMap) (ranks command : ℕ) → 1 ≤ ranks → (o : Option Operation) → told owners ranks (starts_if command ranks o) ≡ word_starts (job_of ops owners ranks) command (option_map word_of o)
started ops owners ranks command some None = refl
started ops owners ranks command some (Some operation) = by_operation operation
  where
    at_root : of.Spawn (down_unit command 1) (Some (key_future command 1)) [] (rank_within ranks (Some (owner owners root ranks))) ∷ [] ≡ of.Spawn (down_unit command 1) (Some (key_future command 1)) [] ((job_of ops owners ranks).owner 1) ∷ []
    at_root = ap (λ (rank : ℕ). of.Spawn (down_unit command 1) (Some (key_future command 1)) [] rank ∷ []) (key_home owners root ranks some (omega arith))

    by_operation : (o : Operation) → told owners ranks (starts_by command ranks o) ≡ word_starts (job_of ops owners ranks) command (Some (word_of o))
    by_operation (operations.Project function level tolerance) = at_root
    by_operation (operations.Refine level source) = at_root
    by_operation (operations.Coarsen source) = at_root
    by_operation (operations.Compress source) = at_root
    by_operation (operations.Reconstruct source) = at_root
    by_operation (operations.Add left_factor left right_factor right) = at_root
    by_operation (operations.Mul left right) = at_root
    by_operation (operations.Inner left right) = at_root
    by_operation (operations.Print source form name) = at_root
    by_operation (operations.Size source) =
        map-append (outline label_of due_of (λ u. home_of owners u ranks) (λ l. kept_at owners l ranks)) (spawn_counts command 0 ranks) (SpawnNeeding (Total command ranks) (count_futures command 0 ranks) ∷ [])
        ∙ (λ i. counts_told owners ranks command 0 ranks (omega arith) i
        ++ of.Spawn (sum_unit command) (Some (key_future command 1)) (count_futures command 0 ranks) (rank_stays ranks 0 some i) ∷ [])
    by_operation operations.Fence = refl

pub starts_told : StartsAreTold
starts_told ops owners ranks zero count = refl
starts_told ops owners ranks (suc before) count =
    started ops owners ranks (suc before) count.0 (slice_get ops before)
    ∙ ap (word_starts (job_of ops owners ranks) (suc before)) (sym (slice_get-map word_of ops before))
