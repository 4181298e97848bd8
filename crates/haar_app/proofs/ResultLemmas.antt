-- Lines of an application's results.
use Rattle.std.proofs.Common.{◌≡◌, ℕ, zero, suc, ◌-◌, ◌≤◌, ◌<◌, Bool, true, false, List, [], length, map, get_or, refl, sym, ap, ◌∙◌, subst, arith}
use Rattle.std.specs.Prelude.{slice_get, Option, Some, None, Result, Ok, Err, IfOk}
use Rattle.std.specs.Option.{option_map, option_map_or}
use Rattle.std.proofs.lemmas.List.{length-map}
use Rattle.std.proofs.lemmas.Option.{slice_get-map, slice_get-get_or}
use Rattle.app_core.specs.Commands.{IsCommand}
use Rattle.app_core.specs.declared.Label.{Label}
use Rattle.owner_map.specs.declared.OwnerMap.{OwnerMap}
use Rattle.tree_model.specs.Commands.{Command}
use Rattle.tree_model.specs.Jobs.{JobData, command_lines}
use Rattle.job_data.specs.Checks.{is_fence}
use Rattle.job_data.specs.Data.{data_of}
use Rattle.job_data.specs.declared.command.Command.{Command as CommandCode}
use Rattle.haar_units.specs.ModelJobs.{command_at, versions_before}
use Rattle.haar_units.specs.Units.{key_future}
use Rattle.haar_units.proofs.EffectLemmas.{some_is, none_is}
use Rattle.haar_base.specs.declared.operation.Operation.{Operation}
use Rattle.haar_base.specs.declared.operation.Operation.TheVariants.{Project, Refine, Coarsen, Compress, Reconstruct, Add, Mul, Inner, Print, Size, Fence}
use Rattle.haar_base.specs.declared.value.Value.{Value}
use Rattle.haar_base.specs.declared.value.Value.TheVariants.{Bad}
use Rattle.haar_base.specs.Operations.{operation_at}
use Rattle.haar_meaning.specs.PlannedJobs.{PlannedJob, IsPlannedJob, IsPlan, job_of, commands_before, standing}
use Rattle.haar_meaning.specs.PlannedJobs.Standing.{Before, At}
use Rattle.haar_meaning.specs.RightValues.{IsRightValue}
use Rattle.haar_results.specs.Results.{Made, lines_from_value, work_of, made_of}
use Rattle.haar_results.specs.RightResults.{IsWork, AreRightResults, IsJobText, lines_of}
use Rattle.haar_results.proofs.ResultLemmas.{right_values_lines, right_overflows_bad}
use Rattle.haar_results.proofs.JobTextLemmas.{right_results_text}
use Rattle.haar_steps.specs.Starts.{kinds_of, result_by, result_if, result_of, kind_of_operation}
use Rattle.haar_app.specs.Planning.{planned}
use Rattle.haar_app.specs.KeptPlans.{IsKept, planned_job}

-- a command with a result is no fence, and its result is the value of the root's future
record Works (number : ℕ) (future : Label) (c : Command) : Type 0 where
  pub works : is_fence c ≡ false
  pub root : future ≡ key_future number 1

works : (before : List Command) (c : Command) (operation : Operation) (number : ℕ) (future : Label) → IsPlan before c operation → result_by number (kind_of_operation operation) ≡ Some future → Works number future c
works before (Command.Project name projection) (Project function level tolerance) number future plan e = record { works = refl; root = sym (some_is (key_future number 1) future e) }
works before (Command.Refine name down_to) (Refine level source) number future plan e = record { works = refl; root = sym (some_is (key_future number 1) future e) }
works before (Command.Coarsen name) (Coarsen source) number future plan e = record { works = refl; root = sym (some_is (key_future number 1) future e) }
works before (Command.Compress name) (Compress source) number future plan e = record { works = refl; root = sym (some_is (key_future number 1) future e) }
works before (Command.Reconstruct name) (Reconstruct source) number future plan e = record { works = refl; root = sym (some_is (key_future number 1) future e) }
works before (Command.Add name a f b g) (Add x left y right) number future plan e = record { works = refl; root = sym (some_is (key_future number 1) future e) }
works before (Command.Mul name f g) (Mul left right) number future plan e = record { works = refl; root = sym (some_is (key_future number 1) future e) }
works before (Command.Inner f g) (Inner left right) number future plan e = record { works = refl; root = sym (some_is (key_future number 1) future e) }
works before (Command.Print name) (Print source form printed) number future plan e = record { works = refl; root = sym (some_is (key_future number 1) future e) }
works before (Command.Size name) (Size source) number future plan e = record { works = refl; root = sym (some_is (key_future number 1) future e) }
works before Command.Fence Fence number future plan e = none_is future e
works before _ _ number future plan e = absurd plan

record HasResult (job : PlannedJob) (number : ℕ) (future : Label) : Type 0 where
  pub command : Command
  pub work : IsWork job number command
  pub root : future ≡ key_future number 1

has_result : (job : PlannedJob) → IsPlannedJob job → (number : ℕ) (future : Label) → result_of job.operations number ≡ Some future → HasResult job number future
has_result job plans number future = go (operation_at job.operations number) refl
  where
    go : (o : Option Operation) → operation_at job.operations number ≡ o → result_if number o ≡ Some future → HasResult job number future
    go None at e = none_is future e
    go (Some operation) at e =
        let plan = plans.plans number operation at in
        let w = works (commands_before job.commands number) plan.command operation number future plan.plan e in
        record { command = plan.command; work = record { at = plan.at; works = w.works }; root = w.root }

module _ (job : JobData) (depth : ℕ) (operations : List Operation) (owners : OwnerMap) (ranks : ℕ) (same : depth ≡ job.depth) (kept : IsKept (planned job depth operations owners ranks))
    (number : ℕ) (v : Value) (future : Label) (has : result_of operations number ≡ Some future) (right : IsRightValue (planned job depth operations owners ranks) future v) where
  abbrev plan : PlannedJob
  plan = planned job depth operations owners ranks

  plans : IsPlannedJob plan
  plans = planned_job plan kept

  here : HasResult plan number future
  here = has_result plan plans number future has

  own : IsRightValue plan (key_future number 1) v
  own = subst (λ (f : Label). IsRightValue plan f v) here.root right

  pub right_lines : standing plan number ≡ Before → lines_from_value (command_at job.commands number) v ≡ Some (lines_of job number)
  right_lines early =
      ap (λ (o : Option Command). lines_from_value o v) here.work.at
      ∙ right_values_lines plan number here.command v plans here.work early own
      ∙ ap (λ (o : Option Command). Some (option_map_or (command_lines (versions_before depth job.commands number)) o [])) (sym here.work.at)
      ∙ ap (λ (d : ℕ). Some (option_map_or (command_lines (versions_before d job.commands number)) (command_at job.commands number) [])) same

  pub right_text : (text : List ℕ) → lines_from_value (command_at job.commands number) v ≡ Some text → standing plan number ≡ Before → text ≡ lines_of job number
  right_text text is early = some_is text (lines_of job number) (sym is ∙ right_lines early)

  pub right_fine : standing plan number ≡ Before → v ≡ Bad → ⊥
  right_fine early bad = none_is (lines_of job number) (
      let lines = right_lines early in
      sym (none_from (command_at job.commands number)) ∙ ap (lines_from_value (command_at job.commands number)) (sym bad) ∙ lines)
    where
      none_from : (o : Option Command) → lines_from_value o Bad ≡ None
      none_from None = refl
      none_from (Some c) = refl

  pub right_bad : standing plan number ≡ At → v ≡ Bad
  right_bad first = right_overflows_bad plan number here.command v plans here.work first own

-- the command of a number
pub at_number : (codes : List CommandCode) (commands : List Command) (operations : List Operation) (number : ℕ) (k : CommandCode) → map data_of codes ≡ commands → length operations ≡ length commands
    → IsCommand (kinds_of operations) number → k ≡ get_or codes (number - 1) k → command_at commands number ≡ Some (data_of k)
at_number codes commands operations zero k are same is at = absurd (let low = is.0 in omega (arith, low))
at_number codes commands operations (suc n) k are same is at =
    let high = is.1 in
    let below : n < length codes = omega (arith, high, length-map operations kind_of_operation, same, ap length are, length-map codes data_of) in
    let index : suc n - 1 ≡ n = omega arith in
    let here : get_or codes n k ≡ k = ap (λ (i : ℕ). get_or codes i k) (sym index) ∙ sym at in
    ap (λ (cs : List Command). slice_get cs n) (sym are) ∙ slice_get-map data_of codes n ∙ ap (option_map data_of) (slice_get-get_or codes n k below ∙ ap Some here)

pub if_ok : {A E : Type 0} (P Q : A → Type 0) (r : Result A E) → IfOk r P → ((a : A) → P a → Q a) → IfOk r Q
if_ok P Q (Ok a) p q = q a p
if_ok P Q (Err e) p q = tt

pub results_text : (job : JobData) (depth : ℕ) (operations : List Operation) (owners : OwnerMap) (ranks : ℕ) (values : List Value) (made : Made) → depth ≡ job.depth → IsKept (planned job depth operations owners ranks)
    → AreRightResults (planned job depth operations owners ranks) values → made ≡ made_of (work_of job.commands) values → IsJobText job made
results_text job depth operations owners ranks values made same kept right is =
    subst (IsJobText job) (sym is)
    (subst (λ (d : ℕ). IsJobText (record { depth = d; commands = job.commands }) (made_of (work_of job.commands) values)) same
    (right_results_text (planned job depth operations owners ranks) values (planned_job (planned job depth operations owners ranks) kept) right))
