-- Lemmas that crates above use: the laws of an application on lists of events, of the units of a job.
use Rattle.std.proofs.Common.{◌≡◌, ℕ, zero, suc, ◌+◌, ◌%◌, ◌<◌, ◌≤◌, ◌^◌, Bool, true, false, List, [], ◌∷◌, length, map, Option, Some, None, refl, sym, ap, ◌∙◌, subst, arith}
use Rattle.std.specs.Prelude.{◌&&◌, ◌==◌, not, if◌then◌else◌, slice_get}
use Rattle.std.specs.Option.{option_map}
use Rattle.std.proofs.lemmas.List.{length-map}
use Rattle.std.proofs.lemmas.Option.{slice_get-map}
use Rattle.app_core.specs.Commands.{IsCommand, IsWork}
use Rattle.app_core.specs.Outlines.{Touches}
use Rattle.app_core.specs.declared.Label.{Label}
use Rattle.app_core.specs.declared.CellName.{CellName}
use Rattle.app_core.specs.declared.Outline.{Outline}
use Rattle.app_core.specs.declared.Outline.TheVariants as of
use Rattle.app_core.specs.declared.CommandKind.{CommandKind}
use Rattle.event_lists.specs.declared.mark.Mark.{Mark}
use Rattle.event_lists.specs.declared.receipt.Receipt.{Receipt}
use Rattle.event_laws.specs.Follows.{TaskEffects, Doing, IsRun, program_from}
use Rattle.event_laws.specs.Trees.{unit_of}
use Rattle.event_laws.specs.Apart.{spawned, Apart, HasOneBringer, EffectsApart, ErasesPut}
use Rattle.event_laws.specs.Held.{HasReceipt, IsBefore, BinsHold, AreDifferent, AllSound, HasNoWriter, fences_before, all_told}
use Rattle.tree_key.specs.Keys.{Key, root}
use Rattle.tree_model.specs.Shapes.{key_count}
use Rattle.tree_model.specs.Versions.{Version}
use Rattle.owner_map.specs.declared.OwnerMap.{OwnerMap}
use Rattle.owner_map.specs.declared.OwnerMap.TheVariants.{Block, Spread, Level}
use Rattle.owner_map.specs.Owners.{owner}
use Rattle.haar_units.specs.Jobs.{DistributedJob, kinds, kind_of, is_on_trees}
use Rattle.haar_units.specs.Jobs.{Operation as Word, operation_at as word_at}
use Rattle.haar_units.specs.Starts.{program as data_program, starts}
use Rattle.haar_units.specs.Bins.{writes, writer_if, is_held}
use Rattle.haar_units.specs.Distributions.{is_kept}
use Rattle.haar_units.specs.ListLaws.{KeepsListLaws}
use Rattle.haar_units.proofs.BinLemmas.{different}
use Rattle.haar_units.proofs.EffectLemmas.{some_is, none_is}
use Rattle.haar_units.proofs.HeldKeyLemmas.{holds_of_keys}
use Rattle.haar_units.proofs.JobLawLemmas.{job_bins_held, job_receipts_serial}
use Rattle.haar_units.proofs.JobTraversalLemmas.{is_distributed, over_keys, VersionAt, version_of as version_written}
use Rattle.haar_units.proofs.ListLawLemmas.{laws_kept}
use Rattle.haar_units.proofs.UnitLemmas.{there_below}
use Rattle.haar_base.specs.declared.operation.Operation.{Operation}
use Rattle.haar_base.specs.declared.operation.Operation.TheVariants.{Project, Refine, Coarsen, Compress, Reconstruct, Add, Mul, Inner, Print, Size, Fence}
use Rattle.haar_base.specs.Operations.{operation_at, word_of}
use Rattle.haar_meaning.specs.PlannedJobs.{PlannedJob, IsPlannedJob, standing, version_of}
use Rattle.haar_meaning.specs.RightValues.{rank_count}
use Rattle.haar_meaning.specs.RightCells.{IsRightSize}
use Rattle.haar_right.proofs.KnownLemmas.{before_if, some_if}
use Rattle.haar_right.proofs.PlanLemmas.{project_plan, refine_plan, coarsen_plan, compress_plan, reconstruct_plan, add_plan, mul_plan}
use Rattle.haar_steps.specs.Forms.{told}
use Rattle.haar_steps.specs.Starts.{starting_of, kinds_of, kind_of_operation}
use Rattle.haar_steps.proofs.AllowedLemmas.{starts_told}
use Rattle.haar_lists.specs.Lists.{MayDo, program, IsJobRun, distribution, model_job, traversal, IsSound, writer, held, total}
use Rattle.haar_lists.proofs.JobLemmas.{words_are, job_is, units_allowed}
use Rattle.haar_lists.proofs.PlannedLemmas.{keys_there, units_planned}

kinds_map : (ops : List Operation) → kinds_of ops ≡ map kind_of (map word_of ops)
kinds_map [] = refl
kinds_map (o ∷ ops) = ap (λ (ks : List CommandKind). kind_of_operation o ∷ ks) (kinds_map ops)

zero_mod : (n : ℕ) → 1 ≤ n → 0 % n ≡ 0
zero_mod n some = omega (arith, some)

-- rank 0 owns the root
owned_by_zero : (owners : OwnerMap) (ranks : ℕ) → 1 ≤ ranks → owner owners root ranks ≡ 0
owned_by_zero Block ranks some = omega arith
owned_by_zero Spread ranks some = zero_mod ranks some
owned_by_zero Level ranks some = zero_mod ranks some

module _ (job : PlannedJob) (planned : IsPlannedJob job) where
  -- runs of the job's units are runs of its plain data

  pub kinds_are : kinds_of job.operations ≡ kinds (model_job job)
  kinds_are = kinds_map job.operations ∙ ap (λ (words : List Word). map kind_of words) (words_are job planned)

  starts_are : (command : ℕ) → told job.owners job.ranks (starting_of job.operations command job.ranks) ≡ starts (model_job job) command
  starts_are command = starts_told job.operations job.owners job.ranks command planned.ranks ∙ ap (λ (d : DistributedJob). starts d command) (job_is job planned)

  program_is : program job ≡ data_program (model_job job)
  program_is = λ i. program_from 1 (kinds_are i) (λ command. starts_are command i)

  as_run : (task_effects : TaskEffects) (log : List Mark) (workers : ℕ) → IsJobRun job task_effects log workers → IsRun job.ranks workers (data_program (model_job job)) (MayDo job) task_effects log
  as_run task_effects log workers run = subst (λ (p : List Doing). IsRun job.ranks workers p (MayDo job) task_effects log) program_is run

  -- whatever overflows

  keeps : KeepsListLaws (model_job job) (MayDo job)
  keeps = laws_kept (MayDo job) (model_job job) (units_allowed job planned)

  pub spawns_apart : (task_effects : TaskEffects) (log : List Mark) (workers : ℕ) → IsJobRun job task_effects log workers → Apart (spawned log)
  spawns_apart task_effects log workers run = keeps.spawns_apart task_effects log workers (as_run task_effects log workers run)

  pub one_bringer : (task_effects : TaskEffects) (log : List Mark) (workers : ℕ) → IsJobRun job task_effects log workers → HasOneBringer log
  one_bringer task_effects log workers run = keeps.one_bringer task_effects log workers (as_run task_effects log workers run)

  pub puts_apart : (task_effects : TaskEffects) (log : List Mark) (workers : ℕ) → IsJobRun job task_effects log workers → EffectsApart (λ c. of.Put c) task_effects
  puts_apart task_effects log workers run = keeps.puts_apart task_effects log workers (as_run task_effects log workers run)

  pub erases_apart : (task_effects : TaskEffects) (log : List Mark) (workers : ℕ) → IsJobRun job task_effects log workers → EffectsApart (λ c. of.Erase c) task_effects
  erases_apart task_effects log workers run = keeps.erases_apart task_effects log workers (as_run task_effects log workers run)

  pub erases_put : (task_effects : TaskEffects) (log : List Mark) (workers : ℕ) → IsJobRun job task_effects log workers → ErasesPut task_effects log
  erases_put task_effects log workers run = keeps.erases_put task_effects log workers (as_run task_effects log workers run)

  pub starts_stay : (command index : ℕ) (start : Outline) (unit : Label) → IsWork (kinds_of job.operations) command
      → slice_get (told job.owners job.ranks (starting_of job.operations command job.ranks)) index ≡ Some start → unit_of start ≡ Some unit → unit.command ≡ command
  starts_stay command index start unit work at is =
      keeps.starts_are_of_the_command command index start unit (subst (λ (ks : List CommandKind). IsWork ks command) kinds_are work)
      (subst (λ (os : List Outline). slice_get os index ≡ Some start) (starts_are command) at) is

  pub spawns_stay : (label : Label) (outlines : List Outline) (index : ℕ) (spawn : Outline) (unit : Label) → MayDo job label outlines → slice_get outlines index ≡ Some spawn → unit_of spawn ≡ Some unit → unit.command ≡ label.command
  spawns_stay label outlines index spawn unit may at is = keeps.spawns_stay_in_their_command label outlines index spawn unit may at is

  pub writes_stay : (label : Label) (outlines : List Outline) (entry : CellName) → MayDo job label outlines → Touches outlines entry → writer job entry.version ≡ Some label.command
  writes_stay label outlines entry may touches = keeps.writes_are_of_the_command label outlines entry may touches

  -- the operation of a word, and the version that it writes

  pub operation_there : (number : ℕ) (w : Word) → word_at (model_job job) number ≡ Some w → (o : Operation) × (operation_at job.operations number ≡ Some o) × (word_of o ≡ w)
  operation_there zero w e = none_is w e
  operation_there (suc n) w e =
      go (slice_get job.operations n) refl (sym (slice_get-map word_of job.operations n) ∙ ap (λ (d : DistributedJob). word_at d (suc n)) (job_is job planned) ∙ e)
    where
      go : (o : Option Operation) → slice_get job.operations n ≡ o → option_map word_of o ≡ Some w → (o : Operation) × (operation_at job.operations (suc n) ≡ Some o) × (word_of o ≡ w)
      go None at e = none_is w e
      go (Some o) at e = (o, at, some_is (word_of o) w e)

  version_there : (number : ℕ) (o : Operation) → operation_at job.operations number ≡ Some o → writes (word_of o) ≡ true → (version : Version) × (version_of job number ≡ Some version)
  version_there number (Project function level tolerance) at does = (_, (project_plan job planned number function level tolerance (planned.plans number (Project function level tolerance) at)).written)
  version_there number (Refine level source) at does = (_, (refine_plan job planned number level source (planned.plans number (Refine level source) at)).written)
  version_there number (Coarsen source) at does = (_, (coarsen_plan job planned number source (planned.plans number (Coarsen source) at)).written)
  version_there number (Compress source) at does = (_, (compress_plan job planned number source (planned.plans number (Compress source) at)).written)
  version_there number (Reconstruct source) at does = (_, (reconstruct_plan job planned number source (planned.plans number (Reconstruct source) at)).written)
  version_there number (Add a left b right) at does = (_, (add_plan job planned number a left b right (planned.plans number (Add a left b right) at)).written)
  version_there number (Mul left right) at does = (_, (mul_plan job planned number left right (planned.plans number (Mul left right) at)).written)
  version_there number (Inner left right) at does = absurd (cc)
  version_there number (Print source form name) at does = absurd (cc)
  version_there number (Size source) at does = absurd (cc)
  version_there number Fence at does = absurd (cc)

  -- a version has the number of the command that writes it
  pub record IsWritten (version command : ℕ) : Type 0 where
    pub same : version ≡ command
    pub found : Version
    pub at : version_of job version ≡ Some found

  pub written_there : (version command : ℕ) → writer job version ≡ Some command → IsWritten version command
  written_there version command e = by_word (word_at (model_job job) version) refl e
    where
      by_word : (o : Option Word) → word_at (model_job job) version ≡ o → writer_if version o ≡ Some command → IsWritten version command
      by_word None at e = none_is command e
      by_word (Some w) at e = go (writes w) refl e
        where
          go : (b : Bool) → writes w ≡ b → (if b then Some version else None) ≡ Some command → IsWritten version command
          go true does e =
              let o = operation_there version w at in
              let v = version_there version o.0 o.1 (ap writes o.2 ∙ does) in
              record { same = some_is version command e; found = v.0; at = v.1 }
          go false does e = none_is command e

  -- at receipts

  pub bins_hold : (task_effects : TaskEffects) (log before : List Mark) (workers : ℕ) (x : Mark) (r : Receipt) (version command : ℕ)
      → IsJobRun job task_effects log workers → HasReceipt log before x r → writer job version ≡ Some command → IsSound job command → IsBefore (kinds_of job.operations) command r.fence
      → BinsHold job.ranks (held job) version before × BinsHold job.ranks (held job) version log
  bins_hold task_effects log before workers x r version command run has writes sound early =
      let v = written_there version command writes in
      job_bins_held (MayDo job) (distribution job) job.depth job.commands (units_allowed job planned) version v.found v.at (units_planned job version planned (ap (standing job) v.same ∙ sound))
      workers task_effects log before x r (as_run task_effects log workers run) has
      (subst (λ (c : ℕ). fences_before c (kinds (model_job job)) < r.fence) (sym v.same) (subst (λ (ks : List CommandKind). fences_before command ks < r.fence) kinds_are early))

  is_command : (number : ℕ) (w : Word) → word_at (model_job job) number ≡ Some w → IsCommand (kinds (model_job job)) number
  is_command zero w at = none_is w at
  is_command (suc n) w at =
      let below = there_below (model_job job).operations n w at in
      let long = length-map (model_job job).operations kind_of in
      (omega arith, omega (arith, below, long))

  pub totals_told : (task_effects : TaskEffects) (log before : List Mark) (workers : ℕ) (x : Mark) (r : Receipt)
      → IsJobRun job task_effects log workers → HasReceipt log before x r → AllSound (kinds_of job.operations) (IsSound job) r.fence → all_told r ≡ total job r.fence
  totals_told task_effects log before workers x r run has sound =
      job_receipts_serial (MayDo job) (distribution job) job.depth job.commands (units_allowed job planned) planned.ranks.0 (owned_by_zero job.owners job.ranks planned.ranks.0)
      workers task_effects log before x r (as_run task_effects log workers run) has
      (λ number w early at tree. let o = operation_there number w at in keys_there job planned number o.0 o.1 (ap is_on_trees o.2 ∙ tree))
      (λ number w early at. units_planned job number planned
      (sound number (subst (λ (ks : List CommandKind). IsCommand ks number) (sym kinds_are) (is_command number w at)) (subst (λ (ks : List CommandKind). fences_before number ks < r.fence) (sym kinds_are) early)))

  -- sizes

  size_is : (rank version : ℕ) (found : Version) → version_of job version ≡ Some found → length (held job rank version) ≡ rank_count job found rank
  size_is rank version found at =
      (holds_of_keys (distribution job) (model_job job) (traversal job) job.depth version w.keys rank (is_distributed (distribution job) job.commands) (over_keys job.depth job.commands version w.keys w.at)).number
      ∙ ap (key_count job.depth) (λ i k. same k i)
    where
      w : VersionAt (distribution job) job.depth job.commands version found
      w = version_written (distribution job) job.depth job.commands version found at

      joined : (a b c : Bool) → (a && (b && c)) ≡ ((a && b) && c)
      joined true b c = refl
      joined false b c = refl

      same : (k : Key) → is_kept (distribution job) w.keys rank k ≡ (found.tree.shape k && ((distribution job).owner k == rank))
      same k = joined (w.keys.visited k) (not (w.keys.erased k)) ((distribution job).owner k == rank) ∙ ap (λ (b : Bool). b && ((distribution job).owner k == rank)) (w.kept k)

  pub sizes_right : (rank version : ℕ) → IsRightSize job rank version (length (held job rank version)) × AreDifferent (held job rank version)
  sizes_right rank version = (
    before_if (standing job version) (λ before. some_if (λ (w : Version). length (held job rank version) ≡ rank_count job w rank) (version_of job version) (λ w at. size_is rank version w at)),
    different (is_held (model_job job) (traversal job) rank version) (2 ^ (job.depth + 1)),
  )

  pub other_sizes : (rank version number : ℕ) → HasNoWriter (writer job) (IsSound job) version → IsRightSize job rank version number
  other_sizes rank version number none =
      before_if (standing job version) (λ before. some_if (λ (w : Version). number ≡ rank_count job w rank) (version_of job version)
      (λ w at. absurd (none version (version_written (distribution job) job.depth job.commands version w at).writer before)))
