-- The counts of all ranks add up to the number of a tree's keys.
use Rattle.std.proofs.Common.{◌≡◌, ℕ, zero, suc, ◌+◌, ◌^◌, ◌<◌, ◌≤◌, Bool, true, false, ◌&&◌, List, [], ◌∷◌, Option, Some, None, refl, sym, ap, ◌∙◌, subst, arith, nat_lt, leb-true}
use Rattle.std.specs.Prelude.{IfSome}
use Rattle.std.specs.List.{fold}
use Rattle.std.specs.Option.{option_and_then}
use Rattle.std.proofs.lemmas.Bool.{cond-true, lt-ltb}
use Rattle.app_core.specs.Given.{Given}
use Rattle.app_core.specs.Inputs.{AreRight}
use Rattle.app_core.specs.declared.Label.{Label}
use Rattle.tree_key.specs.Keys.{Key}
use Rattle.tree_model.specs.Commands.{Command}
use Rattle.tree_model.specs.Shapes.{is_key_of, key_count}
use Rattle.tree_model.specs.Totals.{Visits}
use Rattle.tree_model.specs.Versions.{Version, written}
use Rattle.tree_totals.proofs.CountLemmas.{few_keys}
use Rattle.owner_map.specs.Owners.{owner}
use Rattle.haar_node.specs.declared.Node.{Node}
use Rattle.haar_units.specs.Distributions.{by_map}
use Rattle.haar_units.specs.ModelJobs.{command_at, versions_before}
use Rattle.haar_units.specs.Places.{key_at}
use Rattle.haar_units.specs.Totals.{sum_to}
use Rattle.haar_units.specs.Units.{count_future, count_futures}
use Rattle.haar_units.proofs.HeldKeyLemmas.{counts_add_up}
use Rattle.haar_base.specs.declared.unit.Unit.TheVariants as unit
use Rattle.haar_base.specs.declared.value.Value.{Value}
use Rattle.haar_base.specs.declared.value.Value.TheVariants as value
use Rattle.haar_base.specs.declared.operation.Operation.TheVariants as operations
use Rattle.job_data.specs.Versions.{version_behind}
use Rattle.haar_meaning.specs.PlannedJobs.{PlannedJob, IsPlannedJob, HasPlan, IsPlan, commands_before, Standing, standing, version_of}
use Rattle.haar_meaning.specs.PlannedJobs.Standing.{Before, At, After}
use Rattle.haar_meaning.specs.RightValues.{IsRightValue, IsKeyValue, IsValueAt, IsCounted, overflow_value, rank_count}
use Rattle.haar_meaning.specs.JobUnits.{IsUnit}
use Rattle.haar_right.proofs.KnownLemmas.{if_before, if_some, some_if}
use Rattle.haar_visits.specs.Sizing.{add_count, counted, total}
use Rattle.haar_steps.proofs.HomeLemmas.{owner_below}
use Rattle.haar_laws.specs.Laws.{AreRightFor, TotalsAreRight}
use Rattle.haar_laws.proofs.UnitLemmas.{key_place}

abbrev sum_from : (ℕ → ℕ) → ℕ → ℕ → ℕ
sum_from f first zero = 0
sum_from f first (suc n) = f first + sum_from f (suc first) n

sum_is : (f : ℕ → ℕ) (first n : ℕ) → sum_from f first n + sum_to f first ≡ sum_to f (first + n)
sum_is f first zero = zero_first (sum_to f first) ∙ ap (sum_to f) (same first)
  where
    zero_first : (n : ℕ) → 0 + n ≡ n
    zero_first n = omega arith

    same : (n : ℕ) → n ≡ n + 0
    same n = omega arith
sum_is f first (suc n) =
    let rest = sum_is f (suc first) n in
    let next : sum_to f (suc first + n) ≡ sum_to f (first + suc n) = ap (sum_to f) (shift first n) in
    omega (arith, rest, next)
  where
    shift : (first n : ℕ) → suc first + n ≡ first + suc n
    shift first n = omega arith

-- counts that fit are added
fold_counts : (R : Label → Value → Type 0) (f : ℕ → ℕ) (command : ℕ) → ((rank : ℕ) (v : Value) → R (count_future command rank) v → v ≡ value.Count (f rank))
    → (first n sum : ℕ) (values : List Value) → AreRight R (count_futures command first n) values → sum + sum_from f first n < 2 ^ 64 → fold add_count (Some sum) values ≡ Some (sum + sum_from f first n)
fold_counts R f command each first zero sum [] right fits = ap Some (none sum)
  where
    none : (sum : ℕ) → sum ≡ sum + 0
    none sum = omega arith
fold_counts R f command each first zero sum (v ∷ values) right fits = absurd right
fold_counts R f command each first (suc n) sum [] right fits = absurd right
fold_counts R f command each first (suc n) sum (v ∷ values) right fits =
    let less : sum + f first < 2 ^ 64 = omega (arith, fits) in
    let same : add_count (Some sum) v ≡ Some (sum + f first) =
    ap (add_count (Some sum)) (each first v right.0) ∙ cond-true (nat_lt (sum + f first) (2 ^ 64)) (Some (sum + f first)) None (lt-ltb (sum + f first) (2 ^ 64) less) in
    ap (λ o. fold add_count o values) same
    ∙ fold_counts R f command each (suc first) n (sum + f first) values right.1 (omega (arith, fits))
    ∙ ap Some (shift sum (f first) (sum_from f (suc first) n))
  where
    shift : (a b c : ℕ) → a + b + c ≡ a + (b + c)
    shift a b c = omega arith

-- the ranks own all keys of a tree
ranks_add_up : (job : PlannedJob) (version : Version) → 1 ≤ job.ranks → sum_to (rank_count job version) job.ranks ≡ key_count job.depth version.tree.shape
ranks_add_up job version some =
    counts_add_up (by_map job.owners job.ranks) job.depth (record { visited = version.tree.shape; erased = λ k. false }) (λ k is. owner_below job.owners k job.ranks (key_place job.depth k is) some)
    ∙ ap (key_count job.depth) (λ i k. and_true (version.tree.shape k) i)
  where
    and_true : (b : Bool) → (b && true) ≡ b
    and_true true = refl
    and_true false = refl

-- the command that is planned as a `size`
pub record IsSize (before : List Command) (source : ℕ) (c : Command) : Type 0 where
  pub name : List ℕ
  pub is : c ≡ Command.Size name
  pub read : version_behind before name ≡ source

pub is_size : (before : List Command) (source : ℕ) (c : Command) → IsPlan before c (operations.Size source) → IsSize before source c
is_size before source (Command.Size name) e = record { name = name; is = refl; read = e }
is_size before source (Command.Project name projection) e = absurd e
is_size before source (Command.Refine name level) e = absurd e
is_size before source (Command.Coarsen name) e = absurd e
is_size before source (Command.Compress name) e = absurd e
is_size before source (Command.Reconstruct name) e = absurd e
is_size before source (Command.Add name a f b g) e = absurd e
is_size before source (Command.Mul name f g) e = absurd e
is_size before source (Command.Inner f g) e = absurd e
is_size before source (Command.Print name) e = absurd e
is_size before source Command.Fence e = absurd e

-- a `size` writes no version
none_written : (job : PlannedJob) (command source : ℕ) → HasPlan job.commands command (operations.Size source) → version_of job command ≡ None
none_written job command source p =
    let size = is_size (commands_before job.commands command) source p.command p.plan in
    let versions = versions_before job.depth job.commands command in
    ap (option_and_then (written job.depth versions)) p.at ∙ ap (written job.depth versions) size.is

pub totals_right : TotalsAreRight
totals_right job command ranks given planned (source, is) inputs =
    subst (λ o. IsKeyValue job command o (key_at 1) (total given.values)) (sym is.at) (by_standing (standing job command) refl)
  where
    deep : job.depth ≤ 16
    deep = leb-true job.depth 16 planned.checked.depth

    sized : standing job command ≡ Before → (version : Version) → version_of job source ≡ Some version → total given.values ≡ value.Count (key_count job.depth version.tree.shape)
    sized before version there =
        let f = rank_count job version in
        let each : (rank : ℕ) (v : Value) → IsRightValue job (count_future command rank) v → v ≡ value.Count (f rank) = λ rank v right.
        if_some (λ w. v ≡ value.Count (rank_count job w rank)) (version_of job source) version there
        (subst (λ o. IsCounted job o rank v) is.at (if_before (standing job command) before right)) in
        let add : sum_from f 0 ranks + sum_to f 0 ≡ sum_to f ranks = sum_is f 0 ranks ∙ ap (sum_to f) (zero_plus ranks) in
        let same : sum_to f ranks ≡ key_count job.depth version.tree.shape = subst (λ (n : ℕ). sum_to f n ≡ key_count job.depth version.tree.shape) (sym is.all) (ranks_add_up job version planned.ranks.0) in
        let few = few_keys job.depth version.tree.shape deep in
        ap counted (fold_counts (IsRightValue job) f command each 0 ranks 0 given.values inputs.values (omega (arith, add, same, few)))
        ∙ ap value.Count (total_is f ranks (key_count job.depth version.tree.shape) add same)
      where
        zero_plus : (n : ℕ) → 0 + n ≡ n
        zero_plus n = omega arith

        total_is : (f : ℕ → ℕ) (n all : ℕ) → sum_from f 0 n + sum_to f 0 ≡ sum_to f n → sum_to f n ≡ all → 0 + sum_from f 0 n ≡ all
        total_is f n all add same = omega (arith, add, same)

    by_standing : (s : Standing) → standing job command ≡ s → IsValueAt job s command (operations.Size source) (key_at 1) (total given.values)
    by_standing Before e = some_if (λ version. total given.values ≡ value.Count (key_count job.depth version.tree.shape)) (version_of job source) (sized e)
    by_standing At e = subst (λ o. IfSome o (λ version. total given.values ≡ overflow_value version.tree (key_at 1))) (sym (none_written job command source (planned.plans command (operations.Size source) is.at))) tt
    by_standing After e = tt
