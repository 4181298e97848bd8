-- The results of a run of a job's application are right results of the job.
use Rattle.std.proofs.Common.{◌≡◌, ◌⊎◌, inl, inr, ℕ, zero, suc, ◌+◌, Bool, true, false, if◌then◌else◌, List, [], ◌∷◌, length, map, Option, Some, None, refl, sym, ap, ◌∙◌, subst, arith}
use Rattle.std.specs.Prelude.{slice_get, ⊤}
use Rattle.std.proofs.lemmas.List.{length-map}
use Rattle.std.proofs.lemmas.Option.{slice_get-map, same_Some}
use Rattle.std.specs.Option.{option_map}
use Rattle.app_core.specs.declared.CommandKind.{CommandKind}
use Rattle.app_core.specs.declared.CommandKind.TheVariants as is
use Rattle.app_core.specs.declared.Label.{Label}
use Rattle.app_core.specs.Inputs.{AreRight}
use Rattle.tree_model.specs.Commands.{Command}
use Rattle.job_data.specs.Checks.{is_fence}
use Rattle.haar_units.specs.Units.{key_future}
use Rattle.haar_base.specs.declared.operation.Operation.{Operation}
use Rattle.haar_base.specs.declared.operation.Operation.TheVariants.{Project, Refine, Coarsen, Compress, Reconstruct, Add, Mul, Inner, Print, Size, Fence}
use Rattle.haar_base.specs.declared.value.Value.{Value}
use Rattle.haar_base.specs.Operations.{operation_at}
use Rattle.haar_meaning.specs.PlannedJobs.{PlannedJob, IsPlannedJob, IsPlan, commands_before}
use Rattle.haar_meaning.specs.RightValues.{IsRightValue}
use Rattle.haar_results.specs.Results.{Work, work_from, work_of}
use Rattle.haar_results.specs.RightResults.{IsRightResult, AreRightResults}
use Rattle.haar_steps.specs.Starts.{kinds_of, kind_of_operation, result_by, result_if, result_of}
use Rattle.haar_app.specs.KeptPlans.{planned_job}
use Rattle.haar_app.specs.PlannedApps.{job_in}
use Rattle.haar_app.specs.declared.haar_app.HaarApp.{HaarApp}
use Rattle.crew.specs.Results as runs

-- things that are right for names

right_number : {N T : Type 0} (right : N → T → Type 0) (ns : List N) (xs : List T) → AreRight right ns xs → length xs ≡ length ns
right_number right [] [] are = refl
right_number right [] (x ∷ xs) are = absurd are
right_number right (n ∷ ns) [] are = absurd are
right_number right (n ∷ ns) (x ∷ xs) are = ap suc (right_number right ns xs are.1)

right_at : {N T : Type 0} (right : N → T → Type 0) (ns : List N) (xs : List T) (index : ℕ) (n : N) (x : T) → AreRight right ns xs → slice_get ns index ≡ Some n → slice_get xs index ≡ Some x → right n x
right_at right [] [] index n x are at there = absurd (cc)
right_at right [] (y ∷ xs) index n x are at there = absurd are
right_at right (m ∷ ns) [] index n x are at there = absurd are
right_at right (m ∷ ns) (y ∷ xs) zero n x are at there = subst (λ k. right k x) (same_Some m n at) (subst (right m) (same_Some y x there) are.0)
right_at right (m ∷ ns) (y ∷ xs) (suc index) n x are at there = right_at right ns xs index n x are.1 at there

-- a command is a fence exactly where its operation is one

abbrev Kind : Command → Operation → Type 0
Kind c operation = ((is_fence c ≡ true) × (kind_of_operation operation ≡ is.Fence)) ⊎ ((is_fence c ≡ false) × (kind_of_operation operation ≡ is.Work))

kind_is : (before : List Command) (c : Command) (operation : Operation) → IsPlan before c operation → Kind c operation
kind_is before (Command.Project name projection) (Project function level tolerance) plan = inr (refl, refl)
kind_is before (Command.Refine name down_to) (Refine level source) plan = inr (refl, refl)
kind_is before (Command.Coarsen name) (Coarsen source) plan = inr (refl, refl)
kind_is before (Command.Compress name) (Compress source) plan = inr (refl, refl)
kind_is before (Command.Reconstruct name) (Reconstruct source) plan = inr (refl, refl)
kind_is before (Command.Add name a f b g) (Add x left y right) plan = inr (refl, refl)
kind_is before (Command.Mul name f g) (Mul left right) plan = inr (refl, refl)
kind_is before (Command.Inner f g) (Inner left right) plan = inr (refl, refl)
kind_is before (Command.Print name) (Print source form printed) plan = inr (refl, refl)
kind_is before (Command.Size name) (Size source) plan = inr (refl, refl)
kind_is before Command.Fence Fence plan = inl (refl, refl)
kind_is before _ _ plan = absurd plan

kind_at : (job : PlannedJob) → IsPlannedJob job → (index : ℕ) (c : Command) (operation : Operation) → slice_get job.commands index ≡ Some c → slice_get job.operations index ≡ Some operation → Kind c operation
kind_at job plans index c operation here does =
    let plan = plans.plans (suc index) operation does in
    subst (λ (k : Command). Kind k operation) (same_Some plan.command c (sym plan.at ∙ here)) (kind_is (commands_before job.commands (suc index)) plan.command operation plan.plan)

abbrev Paired : List Command → List Operation → Type 0
Paired [] [] = ⊤
Paired [] (o ∷ os) = ⊥
Paired (c ∷ cs) [] = ⊥
Paired (c ∷ cs) (o ∷ os) = Kind c o × Paired cs os

paired : (cs : List Command) (os : List Operation) → length os ≡ length cs → ((index : ℕ) (c : Command) (o : Operation) → slice_get cs index ≡ Some c → slice_get os index ≡ Some o → Kind c o) → Paired cs os
paired [] [] number each = tt
paired [] (o ∷ os) number each = absurd (omega (arith, number))
paired (c ∷ cs) [] number each = absurd (omega (arith, number))
paired (c ∷ cs) (o ∷ os) number each =
    let fewer : length os ≡ length cs = omega (arith, number) in
    (each 0 c o refl refl, paired cs os fewer (λ index d p here does. each (suc index) d p here does))

-- the numbers of the commands but fences

next : (n : ℕ) → n + 1 ≡ suc n
next n = omega arith

one_more : (number : ℕ) (c : Command) (o : Operation) (cs : List Command) (os : List Operation) → map (λ work. work.number) (work_from (number + 1) cs) ≡ runs.work_from (number + 1) (kinds_of os) → Kind c o
    → map (λ work. work.number) (work_from number (c ∷ cs)) ≡ runs.work_from number (kinds_of (o ∷ os))
one_more number c o cs os more (inl fence) =
    ap (λ (b : Bool). map (λ work. work.number) (if b then work_from (number + 1) cs else record { number = number; command = c } ∷ work_from (number + 1) cs)) fence.0
    ∙ more ∙ ap (λ (n : ℕ). runs.work_from n (kinds_of os)) (next number) ∙ ap (λ (k : CommandKind). runs.work_from number (k ∷ kinds_of os)) (sym fence.1)
one_more number c o cs os more (inr works) =
    ap (λ (b : Bool). map (λ work. work.number) (if b then work_from (number + 1) cs else record { number = number; command = c } ∷ work_from (number + 1) cs)) works.0
    ∙ ap (λ (ns : List ℕ). number ∷ ns) (more ∙ ap (λ (n : ℕ). runs.work_from n (kinds_of os)) (next number)) ∙ ap (λ (k : CommandKind). runs.work_from number (k ∷ kinds_of os)) (sym works.1)

numbers : (number : ℕ) (cs : List Command) (os : List Operation) → Paired cs os → map (λ work. work.number) (work_from number cs) ≡ runs.work_from number (kinds_of os)
numbers number [] [] are = refl
numbers number [] (o ∷ os) are = absurd are
numbers number (c ∷ cs) [] are = absurd are
numbers number (c ∷ cs) (o ∷ os) are = one_more number c o cs os (numbers (number + 1) cs os are.1) are.0

job_numbers : (job : PlannedJob) → IsPlannedJob job → map (λ work. work.number) (work_of job.commands) ≡ runs.work_commands (kinds_of job.operations)
job_numbers job plans = numbers 1 job.commands job.operations (paired job.commands job.operations plans.number (kind_at job plans))

-- the result of a command is the value of its root's future

right_root : (job : PlannedJob) (number : ℕ) (v : Value) (o : Option Operation) → runs.IsRightFor (IsRightValue job) (result_if number o) v → IsRightResult job number v
right_root job number v None right = absurd right
right_root job number v (Some operation) right = by_kind (kind_of_operation operation) right
  where
    by_kind : (kind : CommandKind) → runs.IsRightFor (IsRightValue job) (result_by number kind) v → IsRightResult job number v
    by_kind is.Work right = right
    by_kind is.Fence right = absurd right

abbrev IsRightNumber : PlannedJob → ℕ → Value → Type 0
IsRightNumber job number v = runs.IsRightFor (IsRightValue job) (result_of job.operations number) v

all_right : (job : PlannedJob) → IsPlannedJob job → (values : List Value) → runs.AreRightValues (IsRightValue job) (result_of job.operations) (kinds_of job.operations) values
    → AreRight (IsRightNumber job) (map (λ work. work.number) (work_of job.commands)) values
all_right job plans values are = subst (λ (ns : List ℕ). AreRight (IsRightNumber job) ns values) (sym (job_numbers job plans)) are

right_results_of : (job : PlannedJob) → IsPlannedJob job → (values : List Value) → runs.AreRightValues (IsRightValue job) (result_of job.operations) (kinds_of job.operations) values → AreRightResults job values
right_results_of job plans values are =
    let all = all_right job plans values are in
    record {
      number = right_number (IsRightNumber job) (map (λ work. work.number) (work_of job.commands)) values all ∙ length-map (work_of job.commands) (λ work. work.number);
      each = λ index work v at there. right_root job work.number v (operation_at job.operations work.number)
          (right_at (IsRightNumber job) (map (λ work. work.number) (work_of job.commands)) values index work.number v all
          (slice_get-map (λ work. work.number) (work_of job.commands) index ∙ ap (option_map (λ work. work.number)) at) there);
    }

-- what a run returns for an application is right for its job
pub right_results : (app : HaarApp) (values : List Value) → runs.AreRightValues (IsRightValue (job_in app)) (result_of app.commands.operations.items) (kinds_of app.commands.operations.items) values
    → AreRightResults (job_in app) values
right_results app values are = right_results_of (job_in app) (planned_job (job_in app) app.is_kept) values are
