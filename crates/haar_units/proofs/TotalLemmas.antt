-- A receipt counts the tasks and messages of the commands before its fence.
use Rattle.std.proofs.Common.{◌≡◌, ℕ, zero, suc, ◌+◌, ◌<◌, ◌≤◌, Bool, true, ◌&&◌, List, [], ◌∷◌, length, refl, sym, ap, ◌∙◌, arith}
use Rattle.std.specs.Prelude.{if◌then◌else◌, nat_lt, Option, Some, None, map, slice_get}
use Rattle.std.proofs.lemmas.Bool.{lt-ltb, ltb-true}
use Rattle.app_core.specs.declared.label.Label.{Label}
use Rattle.app_core.specs.declared.outline.Outline.{Outline}
use Rattle.app_core.specs.declared.outline.CommandKind.TheVariants as is
use Rattle.event_lists.specs.declared.receipt.Receipt.{Receipt}
use Rattle.event_lists.specs.declared.mark.Mark.{Mark}
use Rattle.event_laws.specs.Follows.{TaskEffects, Doing, IsRun}
use Rattle.event_laws.specs.Held.{HasReceipt, fences_before, all_told}
use Rattle.event_laws.specs.Stages.{Comes, started, spawned, AsPlanned, AreUnits}
use Rattle.event_laws.specs.Totals.{sends_of, unit_sends, start_sends}
use Rattle.event_laws.proofs.SourceLemmas.{apart}
use Rattle.event_laws.proofs.TotalLemmas.{all_counted}
use Rattle.haar_units.specs.Jobs.{Operation, DistributedJob, operation_at, kind_of, kinds, is_on_trees}
use Rattle.haar_units.specs.Units.{label, parent, home}
use Rattle.haar_units.specs.Starts.{program, starts, starts_if}
use Rattle.haar_units.specs.Jobs.Operation.{Fence}
use Rattle.haar_units.specs.Traversals.{Traversal, IsTraversal, MayIsPlanned, plan, is_spawned, is_spawned_if, units}
use Rattle.haar_units.specs.Laws.{MayIsAllowed, stage}
use Rattle.haar_units.specs.Totals.{sum_to, tasks_of, messages_of, of_operation, total_by, total_of, ReceiptsCountTheTotals}
use Rattle.haar_units.proofs.EffectLemmas.{some_is}
use Rattle.haar_units.proofs.LabelTreeLemmas.{tree, staged}
use Rattle.haar_units.proofs.UnitLemmas.{known}
use Rattle.haar_units.proofs.BoundLemmas.{wider, total_same}
use Rattle.haar_units.proofs.SumLemmas.{sum_ext, sum_add, sum_front}
use Rattle.haar_units.proofs.UnitSumLemmas.{weigh, sends_weigh, length_weighs, five, weigh_listed, start_sum, starts_sent}
use Rattle.haar_units.proofs.CommandTotalLemmas.{cond_zero, Is, is_command}

-- the units of an equivalent kind
comes_more : (program : List Doing) (plan : Label → List Outline) (Of Or : Label → Type 0) → ((u : Label) → Of u → Or u) → (u : Label) (q : ℕ) → Comes program (AsPlanned plan Of) u q → Comes program (AsPlanned plan Or) u q
comes_more program plan Of Or f u q (started k _ d ns _ at) = started k u d ns q at
comes_more program plan Of Or f u q (spawned p rank os i _ d ns _ c m at) = spawned p rank os i u d ns q (comes_more program plan Of Or f p rank c) (m.0, f p m.1) at

same_units : (program : List Doing) (may : Label → List Outline → Type 0) (Of Or : Label → Type 0) (plan : Label → List Outline) (home : Label → ℕ) (us : List Label)
    → ((u : Label) → Of u → Or u) → ((u : Label) → Or u → Of u) → AreUnits program may Of plan home us → AreUnits program may Or plan home us
same_units program may Of Or plan home us f g units = record {
  apart = units.apart;
  all = λ u rank c is. units.all u rank c (g u is);
  only = λ u h. let o = units.only u h in (comes_more program plan Of Or f u (home u) o.0, f u o.1);
  task_effects = units.task_effects;
}

-- over all commands

kinds_of_fence : (operations : List Operation) (i : ℕ) → slice_get (map kind_of operations) i ≡ Some is.Fence → slice_get operations i ≡ Some Fence
kinds_of_fence [] i e = absurd (cc)
kinds_of_fence (w ∷ operations) zero e = ap Some (go w (some_is (kind_of w) is.Fence e))
  where
    go : (w : Operation) → kind_of w ≡ is.Fence → w ≡ Fence
    go Fence e = refl
    go w e = absurd (cc)
kinds_of_fence (w ∷ operations) (suc i) e = kinds_of_fence operations i e

kinds_long : (operations : List Operation) → length (map kind_of operations) ≡ length operations
kinds_long [] = refl
kinds_long (w ∷ operations) = ap suc (kinds_long operations)

module _ (job : DistributedJob) (may : Label → List Outline → Type 0) (within : MayIsAllowed job may) (one : 1 ≤ job.ranks) (root : job.owner 1 ≡ 0) (traversal : Traversal) (bound : ℕ) (ranks : job.ranks ≤ bound) (two : 2 ≤ bound) where
  module _ (workers : ℕ) (task_effects : TaskEffects) (log before : List Mark) (x : Mark) (r : Receipt) (run : IsRun job.ranks workers (program job) may task_effects log) (has : HasReceipt log before x r)
      (course_of : (command : ℕ) (operation : Operation) → fences_before command (kinds job) < r.fence → operation_at job command ≡ Some operation → is_on_trees operation ≡ true → IsTraversal job traversal bound command)
      (exact : (command : ℕ) (operation : Operation) → fences_before command (kinds job) < r.fence → operation_at job command ≡ Some operation → MayIsPlanned job traversal may command) where
    abbrev early : ℕ → Bool
    early c = nat_lt (fences_before c (kinds job)) r.fence

    is_early : (c : ℕ) → early c ≡ true → fences_before c (kinds job) < r.fence
    is_early c e = ltb-true (fences_before c (kinds job)) r.fence e

    traversals : (c : ℕ) (w : Operation) → early c ≡ true → operation_at job c ≡ Some w → is_on_trees w ≡ true → IsTraversal job traversal bound c
    traversals c w e at t = course_of c w (is_early c e) at t

    -- a unit that is spawned is of a command
    exacts : (c : ℕ) → early c ≡ true → MayIsPlanned job traversal may c
    exacts c e p os is_c up_unit m = by_operation (operation_at job p.command) refl up_unit
      where
        by_operation : (o : Option Operation) → operation_at job p.command ≡ o → is_spawned_if job traversal p o ≡ true → os ≡ plan job traversal p
        by_operation None at h = absurd (cc)
        by_operation (Some w) at h = exact c w (is_early c e) (ap (operation_at job) (sym is_c) ∙ at) p os is_c up_unit m

    abbrev us : List Label
    us = units job traversal early bound

    are_units : AreUnits (program job) may (λ u. stage job u < r.fence) (plan job traversal) (home job) us
    are_units = same_units (program job) may (λ u. early u.command ≡ true) (λ u. stage job u < r.fence) (plan job traversal) (home job) us
        (λ u e. is_early u.command e) (λ u lt. lt-ltb (fences_before u.command (kinds job)) r.fence lt)
        (known job may traversal early bound ranks two traversals within exacts)

    each : (c : ℕ) → Is job traversal bound one root ranks two early traversals c
    each = is_command job traversal bound one root ranks two early traversals

    abbrev tasks_by : ℕ → ℕ
    tasks_by c = if early c then of_operation (tasks_of job traversal bound c) (operation_at job c) else 0

    abbrev messages_by : ℕ → ℕ
    messages_by c = if early c then of_operation (messages_of job traversal bound c) (operation_at job c) else 0

    abbrev test : Label → Bool
    test u = early u.command && is_spawned job traversal u

    abbrev weight : Label → ℕ
    weight u = sends_of (home job u) (plan job traversal u)

    tasks_are : length us ≡ total_by job (tasks_of job traversal bound) r.fence
    tasks_are = length_weighs us ∙ weigh_listed (λ u. 1) test (suc (length job.operations)) bound
        ∙ sum_ext (λ c. five (λ p x. test (label c p x)) (λ p x. 1) bound) tasks_by (suc (length job.operations)) (λ c lt. (each c).0)

    abbrev sent_by : ℕ → ℕ
    sent_by c = five (λ p x. test (label c p x)) (λ p x. weight (label c p x)) bound

    abbrev started_by : ℕ → ℕ
    started_by c = if early c then sends_of 0 (starts job c) else 0

    starts_are : start_sends r.fence (program job) ≡ sum_to (λ i. started_by (suc i)) (length job.operations)
    starts_are = starts_sent (starts job) 1 (kinds job) r.fence quiet
        ∙ sum_ext (start_sum (starts job) 1 (kinds job) r.fence) (λ i. started_by (suc i)) (length (kinds job)) (λ i lt. let next : 1 + i ≡ suc i = omega arith in ap (λ (n : ℕ). if early (suc i) then sends_of 0 (starts job n) else 0) next)
        ∙ ap (sum_to (λ i. started_by (suc i))) (kinds_long job.operations)
      where
        quiet : (i : ℕ) → slice_get (kinds job) i ≡ Some is.Fence → sends_of 0 (starts job (1 + i)) ≡ 0
        quiet i e =
            let next : 1 + i ≡ suc i = omega arith in
            ap (λ (n : ℕ). sends_of 0 (starts job n)) next ∙ ap (λ (o : Option Operation). sends_of 0 (starts_if job (suc i) o)) (kinds_of_fence job.operations i e)

    messages_are : start_sends r.fence (program job) + unit_sends (plan job traversal) (home job) us ≡ total_by job (messages_of job traversal bound) r.fence
    messages_are =
        let n = length job.operations in
        let a = starts_are in
        let b = sends_weigh (plan job traversal) (home job) us in
        let d : weigh weight us ≡ sum_to sent_by (suc n) = weigh_listed weight test (suc n) bound in
        let f = sum_front sent_by n in
        let g = sum_front messages_by n in
        let h = (each 0).1 in
        let none : (if early 0 then sends_of 0 (starts job 0) else 0) ≡ 0 = cond_zero (early 0) (sends_of 0 (starts job 0)) (λ t. refl) in
        let first : sent_by 0 ≡ messages_by 0 = omega (arith, h, none) in
        let both = sum_add (λ i. started_by (suc i)) (λ i. sent_by (suc i)) n in
        let rest : sum_to (λ i. started_by (suc i) + sent_by (suc i)) n ≡ sum_to (λ i. messages_by (suc i)) n = sum_ext (λ i. started_by (suc i) + sent_by (suc i)) (λ i. messages_by (suc i)) n (λ i lt. (each (suc i)).1) in
        omega (arith, a, b, d, f, g, first, both, rest)

    pub told : all_told r ≡ total_of job traversal bound r.fence
    told =
        all_counted job.ranks workers (program job) may task_effects log before x r run has (apart job.ranks workers (program job) may task_effects log run parent (tree job may within)) (stage job) (staged job may within) (plan job traversal) (home job) us are_units
        ∙ (λ i. (messages_are i, tasks_are i))

-- with any bound
pub receipts_count : (may : Label → List Outline → Type 0) → ReceiptsCountTheTotals may
receipts_count may job within one root traversal bound workers task_effects log before x r run has each exact =
    told job may within one root traversal (bound + job.ranks + 2) (omega arith) (omega arith) workers task_effects log before x r run has
    (λ c w early at tree. wider job traversal bound (bound + job.ranks + 2) c (omega arith) (each c w early at tree)) exact
    ∙ total_same job traversal bound (bound + job.ranks + 2) (omega arith) r.fence each
