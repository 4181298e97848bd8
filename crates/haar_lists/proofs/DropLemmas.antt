-- Lemmas that crates above use: the steps of a job's plan, and the versions that it drops.
use Rattle.std.proofs.Common.{◌≡◌, ◌⊎◌, inl, inr, ⊎_elim, ℕ, zero, suc, ◌+◌, ◌-◌, ◌<◌, ◌≤◌, Bool, true, false, ◌&&◌, ◌||◌, not, List, [], ◌∷◌, ◌++◌, length, take, filter, map, Option, Some, None, refl, sym, ap, ◌∙◌, subst, arith, append_assoc, append-nil}
use Rattle.std.specs.Prelude.{slice_get, nat_le, nat_lt, ◌==◌, if◌then◌else◌, count_by, cond, is_some, Contains}
use Rattle.std.specs.List.{list_any, list_all, range_with_len}
use Rattle.std.specs.Option.{option_map, option_map_or}
use Rattle.std.proofs.lemmas.Bool.{and_parts, and_from, eq-eqb, le-leb, leb-true, lt-ltb, ltb-true, lt-leb, cases_lt, both_ways, or_left, or_right, not-true}
use Rattle.std.proofs.lemmas.List.{length-map}
use Rattle.std.proofs.lemmas.List.Sums.{sum_by-cons}
use Rattle.std.proofs.lemmas.Option.{slice_get-map, same_Some}
use Rattle.app_core.specs.declared.Label.{Label}
use Rattle.app_core.specs.declared.CellName.{CellName}
use Rattle.app_core.specs.declared.CommandKind.{CommandKind}
use Rattle.event_laws.specs.Held.{IsBefore, fences_before}
use Rattle.tree_key.specs.Keys.{Key}
use Rattle.tree_model.specs.Commands.{Command}
use Rattle.tree_model.specs.Signatures.{Target, signature_of}
use Rattle.tree_model.specs.Totals.{Distribution}
use Rattle.tree_model.proofs.ConstantBoxLemmas.{same_tests}
use Rattle.job_data.specs.declared.step.Step.{Step}
use Rattle.job_data.specs.Checks.{is_fence}
use Rattle.job_data.specs.Drops.{writes_version, has_version, reads_version, is_before, is_done, dropped_at, AreNumbered}
use Rattle.job_data.specs.Versions.{version_behind, sources_of, step_of, plan_from}
use Rattle.job_data.proofs.DropLemmas.{write_nothing}
use Rattle.job_data.proofs.DroppedOnceLemmas.{plan_numbered, dropped_once}
use Rattle.haar_units.specs.Jobs.{DistributedJob, kinds, kind_of}
use Rattle.haar_units.specs.Jobs.{Operation as Word, operation_at as word_at}
use Rattle.haar_units.specs.Bins.{writes, writer_if, writer_of}
use Rattle.haar_units.specs.Drops.{is_read_after, is_used_up, dropped_of}
use Rattle.haar_units.specs.ModelJobs.{operation_of, distributed, command_at}
use Rattle.haar_units.proofs.DropLemmas.{dropped_is_written, dropped_stays_unread, used_up_is_dropped}
use Rattle.haar_units.proofs.EffectLemmas.{some_is, none_is}
use Rattle.haar_base.specs.declared.operation.Operation.{Operation}
use Rattle.haar_base.specs.declared.operation.Operation.TheVariants.{Project, Refine, Coarsen, Compress, Reconstruct, Add, Mul, Inner, Print, Size, Fence}
use Rattle.haar_base.specs.declared.unit.Side.{Side}
use Rattle.haar_base.specs.declared.unit.Side.TheVariants.{Nothing, Entry, Below}
use Rattle.haar_base.specs.declared.unit.Unit.{Unit}
use Rattle.haar_base.specs.declared.unit.Unit.TheVariants as unit
use Rattle.haar_base.specs.Operations.{first_source, second_source}
use Rattle.haar_base.specs.Units.{label_of, reads_of, counts_of, counted_by, side_reads, source_of}
use Rattle.haar_meaning.specs.PlannedJobs.{PlannedJob, IsPlannedJob, HasPlan, IsPlan, commands_before}
use Rattle.haar_meaning.specs.Sides.{IsRightSide}
use Rattle.haar_meaning.specs.JobUnits.{IsUnit}
use Rattle.haar_right.proofs.PlanLemmas.{length_at}
use Rattle.haar_steps.specs.Starts.{kinds_of}
use Rattle.haar_lists.specs.Lists.{MayRead, MayCount, distribution, model_job, writer}
use Rattle.haar_lists.specs.Drops.{plan_steps, dropped, readers}
use Rattle.haar_lists.proofs.FenceLemmas.{kinds_in, kind_is, first_kind, fences_next}
use Rattle.haar_lists.proofs.ListLawLemmas.{kinds_are}

-- the step at a place of a plan is that of the command at this place

pub plan_at : (before cs : List Command) (i : ℕ) (c : Command) → slice_get cs i ≡ Some c → slice_get (plan_from before cs) i ≡ Some (step_of (before ++ take i cs) c)
plan_at before [] i c e = absurd (cc)
plan_at before (d ∷ ds) zero c e = ap (λ x. Some (step_of before x)) (same_Some d c e) ∙ ap (λ b. Some (step_of b c)) (sym (append-nil before))
plan_at before (d ∷ ds) (suc i) c e = plan_at (before ++ d ∷ []) ds i c e ∙ ap (λ b. Some (step_of b c)) (append_assoc before (d ∷ []) (take i ds))

plan_ends : (before cs : List Command) (i : ℕ) → slice_get cs i ≡ None → slice_get (plan_from before cs) i ≡ None
plan_ends before [] i e = refl
plan_ends before (d ∷ ds) zero e = none_is d (sym e)
plan_ends before (d ∷ ds) (suc i) e = plan_ends (before ++ d ∷ []) ds i e

plan_long : (before cs : List Command) → length (plan_from before cs) ≡ length cs
plan_long before [] = refl
plan_long before (c ∷ cs) = ap suc (plan_long (before ++ c ∷ []) cs)

record StepAt (cs : List Command) (i : ℕ) (s : Step) : Type 0 where
  command : Command
  at : slice_get cs i ≡ Some command
  is : step_of (take i cs) command ≡ s

step_at : (cs : List Command) (i : ℕ) (s : Step) → slice_get (plan_from [] cs) i ≡ Some s → StepAt cs i s
step_at cs i s there = go (slice_get cs i) refl
  where
    go : (o : Option Command) → slice_get cs i ≡ o → StepAt cs i s
    go None at = none_is s (sym (plan_ends [] cs i at) ∙ there)
    go (Some c) at = record { command = c; at = at; is = same_Some (step_of (take i cs) c) s (sym (plan_at [] cs i c at) ∙ there) }

-- commands and fences

fences_are : (cs : List Command) (i : ℕ) → fences_before i (kinds_in cs) ≡ count_by is_fence (take i cs)
fences_are cs zero = refl
fences_are [] (suc i) = refl
fences_are (c ∷ cs) (suc i) = first_kind i (is_fence c) (kind_of (operation_of c)) (kinds_in cs) (kind_is c) ∙ go (is_fence c) (fences_are cs i) ∙ sym (sum_by-cons (λ x. cond (is_fence x) 1 0) c (take i cs))
  where
    go : (b : Bool) → fences_before i (kinds_in cs) ≡ count_by is_fence (take i cs) → (if b then suc (fences_before i (kinds_in cs)) else fences_before i (kinds_in cs)) ≡ cond b 1 0 + count_by is_fence (take i cs)
    go true same = omega (arith, same)
    go false same = omega (arith, same)

-- of a command that is no fence
work_at : (cs : List Command) (i : ℕ) (c : Command) → slice_get cs i ≡ Some c → is_fence c ≡ false → fences_before (suc i) (kinds_in cs) ≡ count_by is_fence (take i cs)
work_at cs i c at work = fences_next cs i c at ∙ ap (λ (b : Bool). if b then suc (fences_before i (kinds_in cs)) else fences_before i (kinds_in cs)) work ∙ fences_are cs i

-- it is before the fence exactly where its step is
earlier : (count fence : ℕ) → nat_lt count fence ≡ nat_le (count + 1) fence
earlier count fence =
    same_tests (nat_lt count fence) (nat_le (count + 1) fence)
    (λ is. let lt = ltb-true count fence is in le-leb (count + 1) fence (omega (arith, lt)))
    (λ is. let le = leb-true (count + 1) fence is in lt-ltb count fence (omega (arith, le)))

later : (count fence : ℕ) → nat_le fence count ≡ not (nat_le (count + 1) fence)
later count fence =
    same_tests (nat_le fence count) (not (nat_le (count + 1) fence))
    (λ is. let le = leb-true fence count is in ap not (lt-leb (count + 1) fence (omega (arith, le))))
    (λ is. ⊎_elim (λ lt. absurd (both_ways (nat_le (count + 1) fence) (not-true (nat_le (count + 1) fence) is) (le-leb (count + 1) fence (omega (arith, lt))))) (λ le. le-leb fence count le) (cases_lt count fence))

fence_reads : (before : List Command) (c : Command) (version : ℕ) → is_fence c ≡ true → reads_version version (step_of before c) ≡ false
fence_reads before (Command.Project name projection) version is = absurd (cc)
fence_reads before (Command.Refine name level) version is = absurd (cc)
fence_reads before (Command.Coarsen name) version is = absurd (cc)
fence_reads before (Command.Compress name) version is = absurd (cc)
fence_reads before (Command.Reconstruct name) version is = absurd (cc)
fence_reads before (Command.Add name a f b g) version is = absurd (cc)
fence_reads before (Command.Mul name f g) version is = absurd (cc)
fence_reads before (Command.Inner f g) version is = absurd (cc)
fence_reads before (Command.Print name) version is = absurd (cc)
fence_reads before (Command.Size name) version is = absurd (cc)
fence_reads before Command.Fence version is = refl

written_word : (c : Command) → writes (operation_of c) ≡ is_some (signature_of c).writes
written_word (Command.Project name projection) = refl
written_word (Command.Refine name level) = refl
written_word (Command.Coarsen name) = refl
written_word (Command.Compress name) = refl
written_word (Command.Reconstruct name) = refl
written_word (Command.Add name a f b g) = refl
written_word (Command.Mul name f g) = refl
written_word (Command.Inner f g) = refl
written_word (Command.Print name) = refl
written_word (Command.Size name) = refl
written_word Command.Fence = refl

writers_work : (c : Command) → is_some (signature_of c).writes ≡ true → is_fence c ≡ false
writers_work (Command.Project name projection) is = refl
writers_work (Command.Refine name level) is = refl
writers_work (Command.Coarsen name) is = refl
writers_work (Command.Compress name) is = refl
writers_work (Command.Reconstruct name) is = refl
writers_work (Command.Add name a f b g) is = refl
writers_work (Command.Mul name f g) is = refl
writers_work (Command.Inner f g) is = absurd (cc)
writers_work (Command.Print name) is = absurd (cc)
writers_work (Command.Size name) is = absurd (cc)
writers_work Command.Fence is = absurd (cc)

-- who reads

-- a test of numbers, and a test of the steps of these numbers that says the contrary
any_or_all : (test : ℕ → Bool) (fine : Step → Bool) (steps : List Step) (from : ℕ) → ((i : ℕ) (s : Step) → slice_get steps i ≡ Some s → test (from + i) ≡ not (fine s))
    → list_any test (range_with_len from (length steps)) ≡ not (list_all fine steps)
any_or_all test fine [] from each = refl
any_or_all test fine (s ∷ ss) from each =
    let here : from ≡ from + 0 = omega arith in
    ap (λ (b : Bool). b || list_any test (range_with_len (from + 1) (length ss))) (ap test here ∙ each 0 s refl)
    ∙ ap (λ (b : Bool). not (fine s) || b) (any_or_all test fine ss (from + 1) (λ i t at. let next : from + 1 + i ≡ from + suc i = omega arith in ap test next ∙ each (suc i) t at))
    ∙ split (fine s) (list_all fine ss)
  where
    split : (a b : Bool) → (not a || not b) ≡ not (a && b)
    split true b = refl
    split false b = refl

reader_at : (cs : List Command) (i : ℕ) (c : Command) (version : ℕ) → slice_get cs i ≡ Some c → readers (plan_from [] cs) (suc i) version ≡ reads_version version (step_of (take i cs) c)
reader_at cs i c version at = ap (λ (o : Option Step). option_map_or (reads_version version) o false) (plan_at [] cs i c at)

reads_later : (cs : List Command) (fence version i : ℕ) (s : Step) → slice_get (plan_from [] cs) i ≡ Some s
    → (nat_le fence (fences_before (1 + i) (kinds_in cs)) && readers (plan_from [] cs) (1 + i) version) ≡ not (is_before fence s || not (reads_version version s))
reads_later cs fence version i s there =
    let at = step_at cs i s there in
    let number : 1 + i ≡ suc i = omega arith in
    ap (λ (n : ℕ). nat_le fence (fences_before n (kinds_in cs)) && readers (plan_from [] cs) n version) number
    ∙ ap (λ (b : Bool). nat_le fence (fences_before (suc i) (kinds_in cs)) && b) (reader_at cs i at.command version at.at)
    ∙ by_kind at.command at.at (is_fence at.command) refl
    ∙ ap (λ (t : Step). not (is_before fence t || not (reads_version version t))) at.is
  where
    no_reads : (a b r : Bool) → r ≡ false → (a && r) ≡ not (b || not r)
    no_reads true true false e = refl
    no_reads true false false e = refl
    no_reads false true false e = refl
    no_reads false false false e = refl
    no_reads a b true e = absurd (cc)

    contrary : (a b r : Bool) → a ≡ not b → (a && r) ≡ not (b || not r)
    contrary true true r e = absurd (cc)
    contrary true false true e = refl
    contrary true false false e = refl
    contrary false true r e = refl
    contrary false false r e = absurd (cc)

    by_kind : (c : Command) → slice_get cs i ≡ Some c → (b : Bool) → is_fence c ≡ b
        → (nat_le fence (fences_before (suc i) (kinds_in cs)) && reads_version version (step_of (take i cs) c)) ≡ not (is_before fence (step_of (take i cs) c) || not (reads_version version (step_of (take i cs) c)))
    by_kind c at true is = no_reads (nat_le fence (fences_before (suc i) (kinds_in cs))) (is_before fence (step_of (take i cs) c)) (reads_version version (step_of (take i cs) c)) (fence_reads (take i cs) c version is)
    by_kind c at false is =
        contrary (nat_le fence (fences_before (suc i) (kinds_in cs))) (is_before fence (step_of (take i cs) c)) (reads_version version (step_of (take i cs) c))
        (ap (nat_le fence) (work_at cs i c at is) ∙ later (count_by is_fence (take i cs)) fence)

-- who writes

or_nothing : (a : Bool) → (a || false) ≡ a
or_nothing true = refl
or_nothing false = refl

-- of numbered steps, only the one with a version's number may write it
one_writer : (fence from : ℕ) (steps : List Step) (i : ℕ) (s : Step) → AreNumbered from steps → slice_get steps i ≡ Some s
    → list_any (λ t. is_before fence t && writes_version (from + i) t) steps ≡ (is_before fence s && writes_version (from + i) s)
one_writer fence from [] i s are at = none_is s at
one_writer fence from (x ∷ xs) zero s are at =
    let others = write_nothing fence (from + 1) (from + 0) xs are.1 (λ k low high is. omega arith) in
    ap (λ (b : Bool). (is_before fence x && writes_version (from + 0) x) || b) others.any
    ∙ or_nothing (is_before fence x && writes_version (from + 0) x)
    ∙ ap (λ (t : Step). is_before fence t && writes_version (from + 0) t) (same_Some x s at)
one_writer fence from (x ∷ xs) (suc i) s are at =
    let other = write_nothing fence from (from + suc i) (x ∷ []) (are.0, tt) (λ k low high is. omega arith) in
    let next : from + suc i ≡ from + 1 + i = omega arith in
    no_first (is_before fence x && writes_version (from + suc i) x) (list_any (λ t. is_before fence t && writes_version (from + suc i) t) xs) other.any
    ∙ ap (λ (n : ℕ). list_any (λ t. is_before fence t && writes_version n t) xs) next
    ∙ one_writer fence (from + 1) xs i s are.1 at
    ∙ ap (λ (n : ℕ). is_before fence s && writes_version n s) (sym next)
  where
    no_first : (a b : Bool) → (a || false) ≡ false → (a || b) ≡ b
    no_first true b e = absurd (cc)
    no_first false b e = refl

-- a number of a list that passes a test
some_passes : (test : ℕ → Bool) (xs : List ℕ) → list_any test xs ≡ true → (x : ℕ) × (test x ≡ true)
some_passes test [] e = absurd (cc)
some_passes test (x ∷ xs) e = go (some_passes test xs) (test x) refl e
  where
    go : (list_any test xs ≡ true → (y : ℕ) × (test y ≡ true)) → (b : Bool) → test x ≡ b → (b || list_any test xs) ≡ true → (y : ℕ) × (test y ≡ true)
    go rest true here e = (x, here)
    go rest false here e = rest e

beyond : (cs : List Command) (i : ℕ) → slice_get cs i ≡ None → length cs ≤ i
beyond [] i e = omega arith
beyond (c ∷ cs) zero e = none_is c (sym e)
beyond (c ∷ cs) (suc i) e = let rest = beyond cs i e in omega (arith, rest)

module _ (d : Distribution) (cs : List Command) where
  abbrev steps : List Step
  steps = plan_from [] cs

  abbrev data_job : DistributedJob
  data_job = distributed d cs

  numbered : AreNumbered 1 steps
  numbered = plan_numbered [] cs

  abbrev written_before : ℕ → Option ℕ → Bool
  written_before fence o = option_map_or (λ command. nat_lt (fences_before command (kinds data_job)) fence) o false

  word_there : (i : ℕ) (o : Option Command) → slice_get cs i ≡ o → word_at data_job (suc i) ≡ option_map operation_of o
  word_there i o at = slice_get-map operation_of cs i ∙ ap (option_map operation_of) at

  -- the writer is before the fence
  writers_same : (fence version : ℕ) → written_before fence (writer_of data_job version) ≡ list_any (λ s. is_before fence s && writes_version version s) steps
  writers_same fence zero = sym (write_nothing fence 1 0 steps numbered (λ k low high is. omega arith)).any
  writers_same fence (suc i) = by_command (slice_get cs i) refl
    where
      by_command : (o : Option Command) → slice_get cs i ≡ o → written_before fence (writer_of data_job (suc i)) ≡ list_any (λ s. is_before fence s && writes_version (suc i) s) steps
      by_command None at =
          let long = beyond cs i at in
          ap (λ (o : Option Word). written_before fence (writer_if (suc i) o)) (word_there i None at)
          ∙ sym (write_nothing fence 1 (suc i) steps numbered (λ k low high is. omega (arith, long, high, is, plan_long [] cs))).any
      by_command (Some c) at =
          let number : 1 + i ≡ suc i = omega arith in
          ap (λ (o : Option Word). written_before fence (writer_if (suc i) o)) (word_there i (Some c) at)
          ∙ by_target (signature_of c).writes refl
          ∙ sym (ap (λ (n : ℕ). list_any (λ s. is_before fence s && writes_version n s) steps) (sym number)
          ∙ one_writer fence 1 steps i (step_of (take i cs) c) numbered (plan_at [] cs i c at)
          ∙ ap (λ (n : ℕ). is_before fence (step_of (take i cs) c) && writes_version n (step_of (take i cs) c)) number)
        where
          none : (a : Bool) → false ≡ (a && false)
          none true = refl
          none false = refl

          whole : (a b : Bool) → b ≡ true → a ≡ (a && b)
          whole true true e = refl
          whole false true e = refl
          whole a false e = absurd (cc)

          by_target : (o : Option Target) → (signature_of c).writes ≡ o
              → written_before fence (writer_if (suc i) (Some (operation_of c))) ≡ (is_before fence (step_of (take i cs) c) && writes_version (suc i) (step_of (take i cs) c))
          by_target None is =
              ap (λ (b : Bool). written_before fence (if b then Some (suc i) else None)) (written_word c ∙ ap is_some is)
              ∙ none (is_before fence (step_of (take i cs) c))
              ∙ ap (λ (o : Option Target). is_before fence (step_of (take i cs) c) && option_map_or (λ v. v == suc i) (option_map (λ target. length (take i cs) + 1) o) false) (sym is)
          by_target (Some target) is =
              let long : length (take i cs) + 1 ≡ suc i = omega (arith, length_at cs i c at) in
              ap (λ (b : Bool). written_before fence (if b then Some (suc i) else None)) (written_word c ∙ ap is_some is)
              ∙ ap (λ (n : ℕ). nat_lt n fence) (work_at cs i c at (writers_work c (ap is_some is)))
              ∙ earlier (count_by is_fence (take i cs)) fence
              ∙ whole (is_before fence (step_of (take i cs) c)) (length (take i cs) + 1 == suc i) (eq-eqb (length (take i cs) + 1) (suc i) long)
              ∙ ap (λ (o : Option Target). is_before fence (step_of (take i cs) c) && option_map_or (λ v. v == suc i) (option_map (λ target. length (take i cs) + 1) o) false) (sym is)

  long_same : length (map operation_of cs) ≡ length steps
  long_same = length-map cs operation_of ∙ sym (plan_long [] cs)

  readers_same : (fence version : ℕ) → not (is_read_after data_job (readers steps) fence version) ≡ list_all (λ s. is_before fence s || not (reads_version version s)) steps
  readers_same fence version =
      ap not (ap (λ (n : ℕ). list_any (λ command. nat_le fence (fences_before command (kinds data_job)) && readers steps command version) (range_with_len 1 n)) long_same
      ∙ any_or_all (λ command. nat_le fence (fences_before command (kinds data_job)) && readers steps command version) (λ s. is_before fence s || not (reads_version version s)) steps 1 (reads_later cs fence version))
      ∙ twice (list_all (λ s. is_before fence s || not (reads_version version s)) steps)
    where
      twice : (b : Bool) → not (not b) ≡ b
      twice true = refl
      twice false = refl

  done_same : (fence version : ℕ) → is_used_up data_job (readers steps) fence version ≡ is_done steps fence version
  done_same fence version =
      ap (λ (b : Bool). b && not (is_read_after data_job (readers steps) fence version)) (writers_same fence version)
      ∙ ap (λ (b : Bool). list_any (λ s. is_before fence s && writes_version version s) steps && b) (readers_same fence version)

  pub drops_same : (fence : ℕ) → dropped_of data_job (readers steps) fence ≡ dropped_at steps fence
  drops_same fence = λ i. filter (λ version. done_same fence version i && not (done_same (fence - 1) version i)) (range_with_len 1 (long_same i))

-- a version that a command's operation names is one that its step reads

first_read : (before : List Command) (c : Command) (o : Operation) → IsPlan before c o → (n : ℕ) → first_source o ≡ suc n → has_version (suc n) (sources_of before (signature_of c).reads) ≡ true
first_read before (Command.Project name projection) (Project function level tolerance) plan n e = absurd (cc)
first_read before (Command.Refine name down_to) (Refine level source) plan n e = eq-eqb (version_behind before name) (suc n) (plan.1 ∙ e)
first_read before (Command.Coarsen name) (Coarsen source) plan n e = eq-eqb (version_behind before name) (suc n) (plan ∙ e)
first_read before (Command.Compress name) (Compress source) plan n e = eq-eqb (version_behind before name) (suc n) (plan ∙ e)
first_read before (Command.Reconstruct name) (Reconstruct source) plan n e = eq-eqb (version_behind before name) (suc n) (plan ∙ e)
first_read before (Command.Add name a f b g) (Add left_factor left right_factor right) plan n e =
    or_left (version_behind before f == suc n) (version_behind before g == suc n) (eq-eqb (version_behind before f) (suc n) (plan.1 ∙ e))
first_read before (Command.Mul name f g) (Mul left right) plan n e = or_left (version_behind before f == suc n) (version_behind before g == suc n) (eq-eqb (version_behind before f) (suc n) (plan.0 ∙ e))
first_read before (Command.Inner f g) (Inner left right) plan n e = or_left (version_behind before f == suc n) (version_behind before g == suc n) (eq-eqb (version_behind before f) (suc n) (plan.0 ∙ e))
first_read before (Command.Print name) (Print source form printed) plan n e = eq-eqb (version_behind before name) (suc n) (plan.0 ∙ e)
first_read before (Command.Size name) (Size source) plan n e = absurd (cc)
first_read before Command.Fence Fence plan n e = absurd (cc)
first_read before _ _ plan n e = absurd plan

second_read : (before : List Command) (c : Command) (o : Operation) → IsPlan before c o → (n : ℕ) → second_source o ≡ suc n → has_version (suc n) (sources_of before (signature_of c).reads) ≡ true
second_read before (Command.Project name projection) (Project function level tolerance) plan n e = absurd (cc)
second_read before (Command.Refine name down_to) (Refine level source) plan n e = absurd (cc)
second_read before (Command.Coarsen name) (Coarsen source) plan n e = absurd (cc)
second_read before (Command.Compress name) (Compress source) plan n e = absurd (cc)
second_read before (Command.Reconstruct name) (Reconstruct source) plan n e = absurd (cc)
second_read before (Command.Add name a f b g) (Add left_factor left right_factor right) plan n e =
    or_right (version_behind before f == suc n) (version_behind before g == suc n) (eq-eqb (version_behind before g) (suc n) (plan.3 ∙ e))
second_read before (Command.Mul name f g) (Mul left right) plan n e = or_right (version_behind before f == suc n) (version_behind before g == suc n) (eq-eqb (version_behind before g) (suc n) (plan.1 ∙ e))
second_read before (Command.Inner f g) (Inner left right) plan n e = or_right (version_behind before f == suc n) (version_behind before g == suc n) (eq-eqb (version_behind before g) (suc n) (plan.1 ∙ e))
second_read before (Command.Print name) (Print source form printed) plan n e = absurd (cc)
second_read before (Command.Size name) (Size source) plan n e = absurd (cc)
second_read before Command.Fence Fence plan n e = absurd (cc)
second_read before _ _ plan n e = absurd plan

counted_read : (before : List Command) (c : Command) (source : ℕ) → IsPlan before c (Size source) → has_version source (sources_of before (signature_of c).reads) ≡ true
counted_read before (Command.Size name) source plan = eq-eqb (version_behind before name) source plan
counted_read before _ source plan = absurd plan

module _ (job : PlannedJob) (planned : IsPlannedJob job) where
  -- which entry a side reads: of the version that it is of, and there is no version 0

  record IsRead (source version : ℕ) : Type 0 where
    number : ℕ
    from : source ≡ suc number
    of_it : version ≡ suc number

  side_read : (o : Operation) (source : ℕ) (key : Key) (side : Side) (n : CellName) → IsRightSide job o source key side → Contains (side_reads side source key) n → IsRead source n.version
  side_read o source key Nothing n right (k, lt, e) = absurd (omega (arith, lt))
  side_read o source key (Below sum) n right (k, lt, e) = absurd (omega (arith, lt))
  side_read o source key (Entry known) n right (suc k, lt, e) = absurd (omega (arith, lt))
  side_read o zero key (Entry known) n right (zero, lt, e) = absurd (cc)
  side_read o (suc m) key (Entry known) n right (zero, lt, e) = record { number = m; from = refl; of_it = sym (ap (λ (c : CellName). c.version) e) }

  sides_read : (o : Operation) (one other : ℕ) (key : Key) (first second : Side) (n : CellName) → IsRightSide job o one key first → IsRightSide job o other key second
      → Contains (side_reads first one key ++ side_reads second other key) n → IsRead one n.version ⊎ IsRead other n.version
  sides_read o one other key Nothing second n right also reads = inr (side_read o other key second n also reads)
  sides_read o one other key (Below sum) second n right also reads = inr (side_read o other key second n also reads)
  sides_read o one other key (Entry known) second n right also (zero, lt, e) = inl (side_read o one key (Entry known) n right (zero, omega arith, e))
  sides_read o one other key (Entry known) second n right also (suc k, lt, e) = inr (side_read o other key second n also (k, omega (arith, lt), e))

  -- a command whose step reads a version that is dropped comes before the fence
  read_before : (number : ℕ) (c : Command) (fence version : ℕ) → command_at job.commands number ≡ Some c → has_version version (sources_of (commands_before job.commands number) (signature_of c).reads) ≡ true
      → Contains (dropped job fence) version → IsBefore (kinds_of job.operations) number fence
  read_before zero c fence version at reads drops = none_is c at
  read_before (suc n) c fence version at reads drops =
      subst (λ (ks : List CommandKind). IsBefore ks (suc n) fence) (sym (kinds_are job planned))
      (dropped_stays_unread (model_job job) (readers (plan_steps job)) fence version (suc n) (operation_of c)
      (subst (λ (xs : List ℕ). Contains xs version) (sym (drops_same (distribution job) job.commands fence)) drops)
      (word_there (distribution job) job.commands n (Some c) at)
      (reader_at job.commands n c version at ∙ reads))

  pub dropped_written : (fence version : ℕ) → Contains (dropped job fence) version → (command : ℕ) × (writer job version ≡ Some command) × IsBefore (kinds_of job.operations) command fence
  dropped_written fence version drops =
      let w = dropped_is_written (model_job job) (readers (plan_steps job)) fence version (subst (λ (xs : List ℕ). Contains xs version) (sym (drops_same (distribution job) job.commands fence)) drops) in
      (w.0, w.1, subst (λ (ks : List CommandKind). IsBefore ks w.0 fence) (sym (kinds_are job planned)) w.2)

  -- what no command after a fence reads
  unread_after : (fence version : ℕ) → ((reader : ℕ) → readers (plan_steps job) reader version ≡ true → IsBefore (kinds_of job.operations) reader fence)
      → (b : Bool) → is_read_after (model_job job) (readers (plan_steps job)) fence version ≡ b → b ≡ false
  unread_after fence version unread false is = refl
  unread_after fence version unread true is =
      let reader = some_passes (λ command. nat_le fence (fences_before command (kinds (model_job job))) && readers (plan_steps job) command version) (range_with_len 1 (length (map operation_of job.commands))) is in
      let both = and_parts (nat_le fence (fences_before reader.0 (kinds (model_job job)))) (readers (plan_steps job) reader.0 version) reader.1 in
      let late = leb-true fence (fences_before reader.0 (kinds (model_job job))) both.0 in
      let early = subst (λ (ks : List CommandKind). fences_before reader.0 ks < fence) (kinds_are job planned) (unread reader.0 both.1) in
      absurd (omega (arith, late, early))

  pub each_dropped : (fence version command : ℕ) → writer job version ≡ Some command → IsBefore (kinds_of job.operations) command fence
      → ((reader : ℕ) → readers (plan_steps job) reader version ≡ true → IsBefore (kinds_of job.operations) reader fence)
      → (earlier : ℕ) × (earlier ≤ fence) × Contains (dropped job earlier) version
  each_dropped fence version command writes_it early unread =
      let before = subst (λ (ks : List CommandKind). fences_before command ks < fence) (kinds_are job planned) early in
      let drops = used_up_is_dropped (model_job job) (readers (plan_steps job)) fence version
      (and_from (written_before (distribution job) job.commands fence (writer job version)) (not (is_read_after (model_job job) (readers (plan_steps job)) fence version))
      (ap (written_before (distribution job) job.commands fence) writes_it ∙ lt-ltb (fences_before command (kinds (model_job job))) fence before)
      (ap not (unread_after fence version unread (is_read_after (model_job job) (readers (plan_steps job)) fence version) refl))) in
      (drops.0, drops.1, subst (λ (xs : List ℕ). Contains xs version) (drops_same (distribution job) job.commands drops.0) drops.2)

  pub dropped_unread : (fence : ℕ) (label : Label) (n : CellName) → Contains (dropped job fence) n.version → MayRead job label n → IsBefore (kinds_of job.operations) label.command fence
  dropped_unread fence label n drops (u, is, same, reads) = subst (λ (l : Label). IsBefore (kinds_of job.operations) l.command fence) same (by_unit u is reads)
    where
      by_source : (number : ℕ) (o : Operation) → HasPlan job.commands number o → IsRead (first_source o) n.version ⊎ IsRead (second_source o) n.version → IsBefore (kinds_of job.operations) number fence
      by_source number o has (inl read) =
          read_before number has.command fence n.version has.at
          (subst (λ (v : ℕ). has_version v (sources_of (commands_before job.commands number) (signature_of has.command).reads) ≡ true) (sym read.of_it)
          (first_read (commands_before job.commands number) has.command o has.plan read.number read.from))
          drops
      by_source number o has (inr read) =
          read_before number has.command fence n.version has.at
          (subst (λ (v : ℕ). has_version v (sources_of (commands_before job.commands number) (signature_of has.command).reads) ≡ true) (sym read.of_it)
          (second_read (commands_before job.commands number) has.command o has.plan read.number read.from))
          drops

      by_unit : (u : Unit) → IsUnit job u → Contains (reads_of job.operations u) n → IsBefore (kinds_of job.operations) (label_of u).command fence
      by_unit (unit.Down u) (o, is) reads =
          by_source u.command o (planned.plans u.command o is.command.at)
          (sides_read o (first_source o) (second_source o) u.key u.first u.second n is.first is.second
          (subst (λ (o : Option Operation). Contains (side_reads u.first (source_of first_source o) u.key ++ side_reads u.second (source_of second_source o) u.key) n) is.command.at reads))
      by_unit (unit.Up u) is (k, lt, e) = absurd (omega (arith, lt))
      by_unit (unit.Clear command key) is (k, lt, e) = absurd (omega (arith, lt))
      by_unit (unit.Count command rank) is (k, lt, e) = absurd (omega (arith, lt))
      by_unit (unit.Total command ranks) is (k, lt, e) = absurd (omega (arith, lt))

  pub dropped_uncounted : (fence : ℕ) (label : Label) (version : ℕ) → Contains (dropped job fence) version → MayCount job label version → IsBefore (kinds_of job.operations) label.command fence
  dropped_uncounted fence label version drops (u, is, same, counts) = subst (λ (l : Label). IsBefore (kinds_of job.operations) l.command fence) same (by_unit u is counts)
    where
      by_unit : (u : Unit) → IsUnit job u → counts_of job.operations u ≡ Some version → IsBefore (kinds_of job.operations) (label_of u).command fence
      by_unit (unit.Count command rank) (source, is) counts =
          let one : source ≡ version = some_is source version (sym (ap counted_by is.at) ∙ counts) in
          let has = planned.plans command (Size source) is.at in
          read_before command has.command fence version has.at
          (subst (λ (v : ℕ). has_version v (sources_of (commands_before job.commands command) (signature_of has.command).reads) ≡ true) one
          (counted_read (commands_before job.commands command) has.command source has.plan))
          drops
      by_unit (unit.Down u) is counts = none_is version counts
      by_unit (unit.Up u) is counts = none_is version counts
      by_unit (unit.Clear command key) is counts = none_is version counts
      by_unit (unit.Total command ranks) is counts = none_is version counts

pub drops_once : (job : PlannedJob) (fence other index place version : ℕ) → slice_get (dropped job fence) index ≡ Some version → slice_get (dropped job other) place ≡ Some version → (fence ≡ other) × (index ≡ place)
drops_once job fence other index place version one two = dropped_once (plan_steps job) fence index other place version one two
