-- The plain data of a job are those of its commands.
use Rattle.std.proofs.Common.{◌≡◌, ℕ, suc, List, [], ◌∷◌, length, map, Some, refl, sym, ap, ◌∙◌, subst, arith, ◌≤◌, leb-true}
use Rattle.std.specs.Prelude.{slice_get}
use Rattle.app_core.specs.declared.Label.{Label}
use Rattle.app_core.specs.declared.Outline.{Outline}
use Rattle.tree_model.specs.Commands.{Command}
use Rattle.haar_units.specs.Jobs.{DistributedJob}
use Rattle.haar_units.specs.Jobs.{Operation as Word}
use Rattle.haar_units.specs.Actions.{Allowed}
use Rattle.haar_units.specs.ModelJobs.{operation_of}
use Rattle.haar_units.specs.Distributions.{by_map, place_owner}
use Rattle.haar_units.proofs.EffectLemmas.{some_is}
use Rattle.haar_base.specs.declared.operation.Operation.{Operation}
use Rattle.haar_base.specs.declared.operation.Operation.TheVariants.{Project, Refine, Coarsen, Compress, Reconstruct, Add, Mul, Inner, Print, Size, Fence}
use Rattle.haar_base.specs.Operations.{word_of}
use Rattle.haar_base.specs.Units.{label_of, job_of}
use Rattle.haar_meaning.specs.PlannedJobs.{PlannedJob, IsPlannedJob, HasPlan, IsPlan, commands_before}
use Rattle.haar_steps.proofs.AllowedLemmas.{allowed}
use Rattle.haar_laws.proofs.UnitLemmas.{of_form}
use Rattle.haar_lists.specs.Lists.{model_job, UnitsAreAllowed}

word_is : (before : List Command) (c : Command) (o : Operation) → IsPlan before c o → word_of o ≡ operation_of c
word_is before (Command.Project name projection) (Project function level tolerance) plan = refl
word_is before (Command.Refine name down_to) (Refine level source) plan = refl
word_is before (Command.Coarsen name) (Coarsen source) plan = refl
word_is before (Command.Compress name) (Compress source) plan = refl
word_is before (Command.Reconstruct name) (Reconstruct source) plan = refl
word_is before (Command.Add name a f b g) (Add left_factor left right_factor right) plan = refl
word_is before (Command.Mul name f g) (Mul left right) plan = refl
word_is before (Command.Inner f g) (Inner left right) plan = refl
word_is before (Command.Print name) (Print source form printed) plan = refl
word_is before (Command.Size name) (Size source) plan = refl
word_is before Command.Fence Fence plan = refl
word_is before _ _ plan = absurd plan

same_words : (ops : List Operation) (cs : List Command) → length ops ≡ length cs
    → ((n : ℕ) (o : Operation) → slice_get ops n ≡ Some o → (c : Command) × (slice_get cs n ≡ Some c) × (word_of o ≡ operation_of c)) → map word_of ops ≡ map operation_of cs
same_words [] [] long each = refl
same_words [] (c ∷ cs) long each = absurd (cc)
same_words (o ∷ ops) [] long each = absurd (cc)
same_words (o ∷ ops) (c ∷ cs) long each =
    let first = each 0 o refl in
    let same : word_of o ≡ operation_of c = first.2 ∙ ap operation_of (sym (some_is c first.0 first.1)) in
    let rest = same_words ops cs (omega (arith, long)) (λ n p at. each (suc n) p at) in
    λ i. same i ∷ rest i

pub words_are : (job : PlannedJob) → IsPlannedJob job → map word_of job.operations ≡ map operation_of job.commands
words_are job planned = same_words job.operations job.commands planned.number (λ n o at. by_plan n o (planned.plans (suc n) o at))
  where
    by_plan : (n : ℕ) (o : Operation) → HasPlan job.commands (suc n) o → (c : Command) × (slice_get job.commands n ≡ Some c) × (word_of o ≡ operation_of c)
    by_plan n o plan = (plan.command, plan.at, word_is (commands_before job.commands (suc n)) plan.command o plan.plan)

pub job_is : (job : PlannedJob) → IsPlannedJob job → job_of job.operations job.owners job.ranks ≡ model_job job
job_is job planned = ap (λ (words : List Word). record { operations = words; ranks = job.ranks; owner = place_owner (by_map job.owners job.ranks) }) (words_are job planned)

pub deep : (job : PlannedJob) → IsPlannedJob job → job.depth ≤ 16
deep job planned = leb-true job.depth 16 planned.checked.depth

pub units_allowed : UnitsAreAllowed
units_allowed job planned p os (u, given, is, same, right, e) =
    subst (λ (d : DistributedJob). Allowed d p os) (job_is job planned)
    (subst (λ (l : Label). Allowed (job_of job.operations job.owners job.ranks) l os) same
    (subst (λ (z : List Outline). Allowed (job_of job.operations job.owners job.ranks) (label_of u) z) (sym e)
    (allowed job.depth job.operations job.owners job.ranks job.ranks u given (deep job planned) planned.ranks (of_form job u is))))
