-- The laws of an application on the form of units, steps and starts. The application of a job, above, cites them.
use Rattle.std.proofs.Common.{◌≡◌, ◌≢◌, ◌↔◌, ◌⊎◌, inl, inr, ⊎_elim, ℕ, zero, suc, ◌+◌, ◌*◌, ◌-◌, ◌/◌, ◌^◌, ◌≤◌, ◌<◌, Bool, true, false, List, [], ◌∷◌, ◌++◌, length, map, Option, Some, None, refl, sym, ap, ◌∙◌, subst, arith}
use Rattle.std.specs.Prelude.{IsSome, IfSome, slice_get, Contains}
use Rattle.std.specs.List.{AllByRecursion, flat_map}
use Rattle.std.specs.Option.{option_map}
use Rattle.std.proofs.lemmas.List.{length-map}
use Rattle.std.proofs.lemmas.Option.{slice_get-map}
use Rattle.app_core.specs.Given.{Given}
use Rattle.app_core.specs.Homes.{rank_within}
use Rattle.app_core.specs.Commands.{IsRankCount, IsCommand, IsWork}
use Rattle.app_core.specs.Effects.{IsSpawn, IsSpawnedWithNeeds}
use Rattle.app_core.specs.Outlines.{outlines, outline, IsDueOnce, IsNeededOnce, IsNeededNever, IsSeenToOnce, GivesOnly, NeedingRunsAt, Names, Touches, named, touched}
use Rattle.app_core.specs.declared.Label.{Label}
use Rattle.app_core.specs.declared.CellName.{CellName}
use Rattle.app_core.specs.declared.Effect.TheVariants.{Spawn, SpawnNeeding}
use Rattle.app_core.specs.declared.Outline.{Outline}
use Rattle.app_core.specs.declared.Outline.TheVariants as of
use Rattle.app_core.specs.declared.CommandKind.{CommandKind}
use Rattle.app_core.specs.declared.CommandKind.TheVariants as is
use Rattle.tree_key.specs.Keys.{Key, child, place_of}
use Rattle.owner_map.specs.declared.OwnerMap.{OwnerMap}
use Rattle.owner_map.specs.Owners.{owner}
use Rattle.haar_node.specs.declared.Node.{Node}
use Rattle.haar_units.specs.Units.{key_future, count_future, count_futures, entry}
use Rattle.haar_units.specs.Distributions.{by_map, place_owner}
use Rattle.haar_units.specs.Starts.{starts}
use Rattle.haar_units.specs.StepLaws.{KeepsStepLaws, KeepsStartLaws}
use Rattle.haar_units.proofs.StepLemmas.{sound}
use Rattle.haar_units.proofs.StartLawLemmas.{begun}
use Rattle.haar_base.specs.declared.unit.Side.{Side}
use Rattle.haar_base.specs.declared.unit.Side.TheVariants.{Nothing, Entry, Below}
use Rattle.haar_base.specs.declared.unit.Unit.{Unit}
use Rattle.haar_base.specs.declared.unit.Down.{Down as DownUnit}
use Rattle.haar_base.specs.declared.unit.Unit.TheVariants.{Down, Up, Clear, Count, Total}
use Rattle.haar_base.specs.declared.value.Value.{Value}
use Rattle.haar_base.specs.declared.operation.Operation.{Operation}
use Rattle.haar_base.specs.declared.operation.Operation.TheVariants as operations
use Rattle.haar_base.specs.Operations.{operation_at, first_source, second_source}
use Rattle.haar_base.specs.Units.{label_of, due_of, needs_of, home_of, kept_at, reads_of, side_reads, source_of, place_rule, job_of}
use Rattle.haar_steps.specs.Effects.{HaarEffect}
use Rattle.haar_steps.specs.Starts.{kinds_of, kind_of_operation, starting_of, starts_if, starts_by, spawn_counts, result_of, result_if, result_by}
use Rattle.haar_steps.specs.Steps.{step_of}
use Rattle.haar_steps.specs.Forms.{IsOfForm, told}
use Rattle.haar_steps.proofs.HomeLemmas.{rank_stays, least_place, place_below, left_place, right_place, key_home, place_home_is}
use Rattle.haar_steps.proofs.AllowedLemmas.{allowed, starts_told}

-- steps

module _ (depth : ℕ) (ops : List Operation) (owners : OwnerMap) (made ranks : ℕ) (deep : depth ≤ 16) (count : IsRankCount ranks) where
  -- on whatever inputs, a step keeps the laws on single steps
  pub keeps : (u : Unit) (given : Given Value Node) → IsOfForm depth ops made u → KeepsStepLaws (job_of ops owners ranks) (label_of u) (told owners ranks (step_of depth ops u given))
  keeps u given form = sound (job_of ops owners ranks) (label_of u) (told owners ranks (step_of depth ops u given)) (allowed depth ops owners made ranks u given deep count form)

  pub needing_stay : (u : Unit) (given : Given Value Node) → IsOfForm depth ops made u → AllByRecursion (NeedingRunsAt (home_of owners u ranks)) (told owners ranks (step_of depth ops u given))
  needing_stay (Down u) given form =
      subst (λ r. AllByRecursion (NeedingRunsAt r) (told owners ranks (step_of depth ops (Down u) given))) (sym (key_home owners u.key ranks count.0 form.place)) (keeps (Down u) given form).stays
  needing_stay (Up u) given form =
      subst (λ r. AllByRecursion (NeedingRunsAt r) (told owners ranks (step_of depth ops (Up u) given))) (sym (key_home owners u.key ranks count.0 form.0.place)) (keeps (Up u) given form).stays
  needing_stay (Clear command key) given form = (tt, tt)
  needing_stay (Count command rank) given form = (tt, tt)
  needing_stay (Total command number) given form = (tt, tt)

  -- a unit puts and erases entries at its home
  pub writes_at_home : (u : Unit) (given : Given Value Node) (n : CellName) → IsOfForm depth ops made u → Touches (told owners ranks (step_of depth ops u given)) n → place_owner (by_map owners ranks) n.place ≡ home_of owners u ranks
  writes_at_home (Down u) given n form touches =
      ap (λ (m : CellName). place_owner (by_map owners ranks) m.place) (sym ((keeps (Down u) given form).touches n touches)) ∙ sym (key_home owners u.key ranks count.0 form.place)
  writes_at_home (Up u) given n form touches =
      ap (λ (m : CellName). place_owner (by_map owners ranks) m.place) (sym ((keeps (Up u) given form).touches n touches)) ∙ sym (key_home owners u.key ranks count.0 form.0.place)
  writes_at_home (Clear command key) given n form touches =
      ap (λ (m : CellName). place_owner (by_map owners ranks) m.place) (sym ((keeps (Clear command key) given form).touches n touches)) ∙ sym (key_home owners key ranks count.0 form.place)
  writes_at_home (Count command rank) given n form (k, lt, e) = absurd (omega (arith, lt))
  writes_at_home (Total command number) given n form (k, lt, e) = absurd (omega (arith, lt))

  -- and reads entries there
  side_at : (side : Side) (version : ℕ) (key : Key) (n : CellName) → Contains (side_reads side version key) n → n.place ≡ place_of key
  side_at Nothing version key n (k, lt, e) = absurd (omega (arith, lt))
  side_at (Entry known) version key n (zero, lt, e) = ap (λ (m : CellName). m.place) (sym e)
  side_at (Entry known) version key n (suc k, lt, e) = absurd (omega (arith, lt))
  side_at (Below sum) version key n (k, lt, e) = absurd (omega (arith, lt))

  sides_at : (first second : Side) (one other : ℕ) (key : Key) (n : CellName) → Contains (side_reads first one key ++ side_reads second other key) n → n.place ≡ place_of key
  sides_at Nothing second one other key n there = side_at second other key n there
  sides_at (Entry known) second one other key n (zero, lt, e) = ap (λ (m : CellName). m.place) (sym e)
  sides_at (Entry known) second one other key n (suc k, lt, e) = side_at second other key n (k, omega (arith, lt), e)
  sides_at (Below sum) second one other key n there = side_at second other key n there

  pub reads_at_home : (u : Unit) (n : CellName) → IsOfForm depth ops made u → Contains (reads_of ops u) n → place_owner (by_map owners ranks) n.place ≡ home_of owners u ranks
  reads_at_home (Down u) n form there =
      ap (place_owner (by_map owners ranks)) (sides_at u.first u.second (source_of first_source (operation_at ops u.command)) (source_of second_source (operation_at ops u.command)) u.key n there)
      ∙ sym (key_home owners u.key ranks count.0 form.place)
  reads_at_home (Up u) n form (k, lt, e) = absurd (omega (arith, lt))
  reads_at_home (Clear command key) n form (k, lt, e) = absurd (omega (arith, lt))
  reads_at_home (Count command rank) n form (k, lt, e) = absurd (omega (arith, lt))
  reads_at_home (Total command number) n form (k, lt, e) = absurd (omega (arith, lt))

  -- the label of a unit determines its home
  abbrev label_home : ℕ → ℕ → ℕ
  label_home (suc (suc (suc zero))) place = rank_within ranks (Some place)
  label_home (suc (suc (suc (suc part)))) place = rank_within ranks (Some 0)
  label_home _ place = place_owner (by_map owners ranks) place

  home_by_label : (u : Unit) → IsOfForm depth ops made u → home_of owners u ranks ≡ label_home (label_of u).part (label_of u).place
  home_by_label (Down u) form = key_home owners u.key ranks count.0 form.place
  home_by_label (Up u) form = key_home owners u.key ranks count.0 form.0.place
  home_by_label (Clear command key) form = key_home owners key ranks count.0 form.place
  home_by_label (Count command rank) form = refl
  home_by_label (Total command number) form = refl

  pub label_tells : (u other : Unit) → IsOfForm depth ops made u → IsOfForm depth ops made other → label_of u ≡ label_of other → home_of owners u ranks ≡ home_of owners other ranks
  label_tells u other form more same = home_by_label u form ∙ ap (λ (l : Label). label_home l.part l.place) same ∙ sym (home_by_label other more)

  -- needed futures are kept where the unit runs
  kept_above : (command : ℕ) (key : Key) (place : ℕ) → key.level ≤ 16 → key.at < 2 ^ key.level → place / 2 ≡ place_of key → kept_at owners (key_future command place) ranks ≡ rank_within ranks (Some (owner owners key ranks))
  kept_above command key place few within half =
      ap (λ (p : ℕ). rank_within ranks (place_rule owners p ranks)) half ∙ place_home_is owners (place_of key) ranks count.0 (least_place key) (place_below key few within) ∙ sym (key_home owners key ranks count.0 within)

  counted_at_zero : (command first n : ℕ) (future : Label) → Contains (count_futures command first n) future → kept_at owners future ranks ≡ 0
  counted_at_zero command first zero future (k, lt, e) = absurd (omega (arith, lt))
  counted_at_zero command first (suc n) future (zero, lt, e) = subst (λ l. kept_at owners l ranks ≡ 0) e refl
  counted_at_zero command first (suc n) future (suc k, lt, e) = counted_at_zero command (suc first) n future (k, omega (arith, lt), e)

  pub needs_at_home : (u : Unit) (future : Label) → IsOfForm depth ops made u → Contains (needs_of u) future → kept_at owners future ranks ≡ home_of owners u ranks
  needs_at_home (Down u) future form (k, lt, e) = absurd (omega (arith, lt))
  needs_at_home (Up u) future form (zero, lt, e) =
      let left = left_place u.key in
      subst (λ l. kept_at owners l ranks ≡ rank_within ranks (Some (owner owners u.key ranks))) e (kept_above u.command u.key (place_of (child u.key false)) (omega (arith, form.0.within, deep)) form.0.place (omega (arith, left)))
  needs_at_home (Up u) future form (suc zero, lt, e) =
      let right = right_place u.key in
      subst (λ l. kept_at owners l ranks ≡ rank_within ranks (Some (owner owners u.key ranks))) e (kept_above u.command u.key (place_of (child u.key true)) (omega (arith, form.0.within, deep)) form.0.place (omega (arith, right)))
  needs_at_home (Up u) future form (suc (suc k), lt, e) = absurd (omega (arith, lt))
  needs_at_home (Clear command key) future form (k, lt, e) = absurd (omega (arith, lt))
  needs_at_home (Count command rank) future form (k, lt, e) = absurd (omega (arith, lt))
  needs_at_home (Total command number) future form there = counted_at_zero command 0 number future there ∙ sym (rank_stays ranks 0 count.0)

-- starts

module _ (ops : List Operation) (owners : OwnerMap) (ranks command : ℕ) (count : IsRankCount ranks) where
  abbrev begins : List Outline
  begins = told owners ranks (starting_of ops command ranks)

  laws : KeepsStartLaws (job_of ops owners ranks) command
  laws = begun (job_of ops owners ranks) command

  are : begins ≡ starts (job_of ops owners ranks) command
  are = starts_told ops owners ranks command count

  pub few_starts : length (starting_of ops command ranks) ≤ 2 ^ 16
  few_starts =
      let same = length-map (starting_of ops command ranks) (outline label_of due_of (λ u. home_of owners u ranks) (λ l. kept_at owners l ranks)) in
      let few = laws.few in
      let told_few = ap length are in
      omega (arith, same, few, told_few, count.1)

  pub at_zero : AllByRecursion (NeedingRunsAt 0) begins
  at_zero = subst (AllByRecursion (NeedingRunsAt 0)) (sym are) laws.at_zero

  pub name_their_command : (future : Label) → Names begins future → future.command ≡ command
  name_their_command future names = laws.names future (subst (λ os. Names os future) are names)

  pub due_once : (future : Label) → Names begins future → IsDueOnce future begins
  due_once future names = subst (IsDueOnce future) (sym are) (laws.due_once future (subst (λ os. Names os future) are names))

  -- a command's result is the future of the root, where it has starts
  result_is : (o : Option Operation) (future : Label) → Names (told owners ranks (starts_if command ranks o)) future → result_if command o ≡ Some (key_future command 1)
  result_is None future (k, lt, e) = absurd (omega (arith, lt))
  result_is (Some operation) future names = by_operation operation names
    where
      by_operation : (o : Operation) → Names (told owners ranks (starts_by command ranks o)) future → result_if command (Some o) ≡ Some (key_future command 1)
      by_operation (operations.Project function level tolerance) n = refl
      by_operation (operations.Refine level source) n = refl
      by_operation (operations.Coarsen source) n = refl
      by_operation (operations.Compress source) n = refl
      by_operation (operations.Reconstruct source) n = refl
      by_operation (operations.Add left_factor left right_factor right) n = refl
      by_operation (operations.Mul left right) n = refl
      by_operation (operations.Inner left right) n = refl
      by_operation (operations.Print source form name) n = refl
      by_operation (operations.Size source) n = refl
      by_operation operations.Fence (k, lt, e) = absurd (omega (arith, lt))

  pub needed_once : (future : Label) → Names begins future → result_of ops command ≢ Some future → IsNeededOnce future begins
  needed_once future names other =
      let result = result_is (operation_at ops command) future names in
      subst (IsNeededOnce future) (sym are) (laws.needed_once future (subst (λ os. Names os future) are names) (λ e. other (result ∙ ap Some e)))

  result_needed_never : (o : Option Label) → (o ≡ None) ⊎ (o ≡ Some (key_future command 1)) → IfSome o (λ future. IsNeededNever future begins)
  result_needed_never o one = ⊎_elim
      (λ e. subst (λ r. IfSome r (λ future. IsNeededNever future begins)) (sym e) tt)
      (λ e. subst (λ r. IfSome r (λ future. IsNeededNever future begins)) (sym e) (subst (IsNeededNever (key_future command 1)) (sym are) laws.unneeded)) one

  result_kinds : (o : Option Operation) → (result_if command o ≡ None) ⊎ (result_if command o ≡ Some (key_future command 1))
  result_kinds None = inl refl
  result_kinds (Some o) = by_kind (kind_of_operation o)
    where
      by_kind : (k : CommandKind) → (result_by command k ≡ None) ⊎ (result_by command k ≡ Some (key_future command 1))
      by_kind is.Work = inr refl
      by_kind is.Fence = inl refl

  pub result_unneeded : IfSome (result_of ops command) (λ future. IsNeededNever future begins)
  result_unneeded = result_needed_never (result_of ops command) (result_kinds (operation_at ops command))

-- all of the counts of ranks and one more
all_counts : (P : HaarEffect → Type 0) (last : HaarEffect) (command first n : ℕ) → ((rank : ℕ) → P (Spawn (Count command rank))) → P last → AllByRecursion P (spawn_counts command first n ++ last ∷ [])
all_counts P last command first zero each end = (end, tt)
all_counts P last command first (suc n) each end = (each first, all_counts P last command (suc first) n each end)

all_starts : (P : HaarEffect → Type 0) (command ranks : ℕ) → ((u : DownUnit) → P (Spawn (Down u))) → ((rank : ℕ) → P (Spawn (Count command rank))) → P (SpawnNeeding (Total command ranks) (count_futures command 0 ranks))
    → (o : Option Operation) → AllByRecursion P (starts_if command ranks o)
all_starts P command ranks down each end None = tt
all_starts P command ranks down each end (Some o) = by_operation o
  where
    by_operation : (o : Operation) → AllByRecursion P (starts_by command ranks o)
    by_operation (operations.Project function level tolerance) = (down _, tt)
    by_operation (operations.Refine level source) = (down _, tt)
    by_operation (operations.Coarsen source) = (down _, tt)
    by_operation (operations.Compress source) = (down _, tt)
    by_operation (operations.Reconstruct source) = (down _, tt)
    by_operation (operations.Add left_factor left right_factor right) = (down _, tt)
    by_operation (operations.Mul left right) = (down _, tt)
    by_operation (operations.Inner left right) = (down _, tt)
    by_operation (operations.Print source form name) = (down _, tt)
    by_operation (operations.Size source) = all_counts P (SpawnNeeding (Total command ranks) (count_futures command 0 ranks)) command 0 ranks each end
    by_operation operations.Fence = tt

pub starts_are_spawns : (ops : List Operation) (command ranks : ℕ) → AllByRecursion (IsSpawn {U = Unit} {V = Value} {C = Node}) (starting_of ops command ranks)
starts_are_spawns ops command ranks = all_starts (IsSpawn {U = Unit} {V = Value} {C = Node}) command ranks (λ u. tt) (λ rank. tt) tt (operation_at ops command)

counted_some : (command ranks : ℕ) → 1 ≤ ranks → count_futures command 0 ranks ≢ []
counted_some command zero some e = absurd (omega (arith, some))
counted_some command (suc more) some e = absurd (cc)

pub starts_have_needs : (ops : List Operation) (command ranks : ℕ) → 1 ≤ ranks → AllByRecursion (IsSpawnedWithNeeds {U = Unit} {V = Value} {C = Node} needs_of) (starting_of ops command ranks)
starts_have_needs ops command ranks some = all_starts (IsSpawnedWithNeeds {U = Unit} {V = Value} {C = Node} needs_of) command ranks (λ u. refl) (λ rank. refl) (refl, counted_some command ranks some) (operation_at ops command)

-- commands

result_work : (command : ℕ) (o : Option Operation) → IsSome (result_if command o) ↔ (option_map kind_of_operation o ≡ Some is.Work)
result_work command None = ((λ e. cc), (λ e. cc))
result_work command (Some o) = by_kind (kind_of_operation o)
  where
    by_kind : (k : CommandKind) → IsSome (result_by command k) ↔ (Some k ≡ Some is.Work)
    by_kind is.Work = ((λ _. refl), (λ _. refl))
    by_kind is.Fence = ((λ e. cc), (λ e. cc))

pub result_of_work : (ops : List Operation) (command : ℕ) → IsCommand (kinds_of ops) command → IsSome (result_of ops command) ↔ IsWork (kinds_of ops) command
result_of_work ops zero is = absurd (omega (arith, is.0))
result_of_work ops (suc before) is =
    let same = slice_get-map kind_of_operation ops before in
    let iff = result_work (suc before) (slice_get ops before) in
    ((λ there. same ∙ iff.0 there), (λ work. iff.1 (sym same ∙ work)))

pub few_commands : (ops : List Operation) → length ops ≤ 512 → length (kinds_of ops) < 2 ^ 32 - 1
few_commands ops few = let same = length-map ops kind_of_operation in omega (arith, few, same)
