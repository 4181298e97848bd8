-- The application of a job keeps the laws of an application.
use Rattle.std.proofs.Common.{◌≡◌, ◌≢◌, ◌↔◌, ℕ, ◌^◌, ◌-◌, ◌≤◌, ◌<◌, List, length, Option, Some, None, refl, sym, ◌∙◌, arith, leb-true}
use Rattle.std.specs.Prelude.{IfSome, IsSome, Contains}
use Rattle.std.specs.List.{AllByRecursion}
use Rattle.app_core.specs.Given.{Given}
use Rattle.app_core.specs.Commands.{IsRankCount, IsCommand, IsWork}
use Rattle.app_core.specs.Effects.{IsRightEffect, IsSpawn, IsSpawnedWithNeeds}
use Rattle.app_core.specs.Homes.{rank_within}
use Rattle.app_core.specs.Inputs.{AreRightInputs}
use Rattle.app_core.specs.Outlines.{NeedingRunsAt, Touches, Names, IsDueOnce, IsNeededOnce, IsNeededNever}
use Rattle.app_core.specs.declared.Label.{Label}
use Rattle.app_core.specs.declared.CellName.{CellName}
use Rattle.app_core.specs.declared.Outline.{Outline}
use Rattle.owner_map.specs.declared.OwnerMap.{OwnerMap}
use Rattle.haar_node.specs.declared.Node.{Node}
use Rattle.haar_units.specs.Distributions.{by_map, place_owner}
use Rattle.haar_units.specs.StepLaws.{KeepsStepLaws}
use Rattle.haar_base.specs.declared.unit.Unit.{Unit}
use Rattle.haar_base.specs.declared.unit.Unit.TheVariants.{Count}
use Rattle.haar_base.specs.declared.value.Value.{Value}
use Rattle.haar_base.specs.declared.operation.Operation.{Operation}
use Rattle.haar_base.specs.Units.{label_of, due_of, needs_of, home_of, kept_at, kept_rule_of, reads_of, counts_of, job_of}
use Rattle.haar_meaning.specs.PlannedJobs.{PlannedJob}
use Rattle.haar_meaning.specs.RightValues.{IsRightValue}
use Rattle.haar_meaning.specs.RightCells.{IsRightCell, IsRightSize}
use Rattle.haar_meaning.specs.JobUnits.{IsUnit}
use Rattle.haar_steps.specs.Forms.{told}
use Rattle.haar_steps.specs.Starts.{starting_of, result_of, kinds_of}
use Rattle.haar_steps.specs.Steps.{step_of}
use Rattle.haar_steps.proofs.AppLemmas as form
use Rattle.haar_steps.proofs.StepLemmas as steps
use Rattle.haar_laws.specs.Laws.{AreRightFor}
use Rattle.haar_laws.proofs.UnitLemmas.{of_form}
use Rattle.haar_laws.proofs.RightLemmas.{steps_right}
use Rattle.haar_laws.proofs.StartLemmas.{starts_right}
use Rattle.haar_lists.specs.Lists.{MayCount}
use Rattle.haar_app.specs.KeptPlans.{IsKept, planned_job}

module _ (job : PlannedJob) (kept : IsKept job) where
  deep : job.depth ≤ 16
  deep = leb-true job.depth 16 kept.checked.depth

  pub keeps : (ranks : ℕ) → IsRankCount ranks → (u : Unit) (given : Given Value Node) → IsUnit job u → KeepsStepLaws (job_of job.operations job.owners ranks) (label_of u) (told job.owners ranks (step_of job.depth job.operations u given))
  keeps ranks count u given is = form.keeps job.depth job.operations job.owners job.ranks ranks deep count u given (of_form job u is)

  pub few_effects : (u : Unit) (given : Given Value Node) → length (step_of job.depth job.operations u given) ≤ 2 ^ 16
  few_effects u given = let short = steps.short job.depth job.operations u given in omega (arith, short)

  pub few_reads : (u : Unit) → length (reads_of job.operations u) ≤ 16
  few_reads u = let few = steps.few_reads job.operations u in omega (arith, few)

  pub label_tells_home : (ranks : ℕ) → IsRankCount ranks → (u other : Unit) → IsUnit job u → IsUnit job other → label_of u ≡ label_of other → home_of job.owners u ranks ≡ home_of job.owners other ranks
  label_tells_home ranks count u other is more same = form.label_tells job.depth job.operations job.owners job.ranks ranks deep count u other (of_form job u is) (of_form job other more) same

  pub needs_at_home : (ranks : ℕ) → IsRankCount ranks → (u : Unit) (future : Label) → IsUnit job u → Contains (needs_of u) future → kept_at job.owners future ranks ≡ home_of job.owners u ranks
  needs_at_home ranks count u future is needs = form.needs_at_home job.depth job.operations job.owners job.ranks ranks deep count u future (of_form job u is) needs

  pub needing_stay : (ranks : ℕ) → IsRankCount ranks → (u : Unit) (given : Given Value Node) → IsUnit job u → AllByRecursion (NeedingRunsAt (home_of job.owners u ranks)) (told job.owners ranks (step_of job.depth job.operations u given))
  needing_stay ranks count u given is = form.needing_stay job.depth job.operations job.owners job.ranks ranks deep count u given (of_form job u is)

  pub writes_at_home : (ranks : ℕ) → IsRankCount ranks → (u : Unit) (given : Given Value Node) (n : CellName) → IsUnit job u → Touches (told job.owners ranks (step_of job.depth job.operations u given)) n
      → place_owner (by_map job.owners ranks) n.place ≡ home_of job.owners u ranks
  writes_at_home ranks count u given n is touches = form.writes_at_home job.depth job.operations job.owners job.ranks ranks deep count u given n (of_form job u is) touches

  pub one_home : (ranks : ℕ) → IsRankCount ranks → (u other : Unit) (given more : Given Value Node) (n : CellName) → IsUnit job u → IsUnit job other
      → Touches (told job.owners ranks (step_of job.depth job.operations u given)) n → Touches (told job.owners ranks (step_of job.depth job.operations other more)) n
      → home_of job.owners u ranks ≡ home_of job.owners other ranks
  one_home ranks count u other given more n is also touches again = sym (writes_at_home ranks count u given n is touches) ∙ writes_at_home ranks count other more n also again

  pub reads_at_home : (u : Unit) (n : CellName) → IsUnit job u → Contains (reads_of job.operations u) n → place_owner (by_map job.owners job.ranks) n.place ≡ home_of job.owners u job.ranks
  reads_at_home u n is reads = form.reads_at_home job.depth job.operations job.owners job.ranks job.ranks deep kept.ranks u n (of_form job u is) reads

  pub counts_told : (u : Unit) → IsUnit job u → IfSome (counts_of job.operations u) (λ version. MayCount job (label_of u) version)
  counts_told u is = by_count (counts_of job.operations u) refl
    where
      by_count : (o : Option ℕ) → counts_of job.operations u ≡ o → IfSome o (λ version. MayCount job (label_of u) version)
      by_count None e = tt
      by_count (Some version) e = (u, is, refl, e)

  pub step_right : (u : Unit) (given : Given Value Node) → IsUnit job u → AreRightFor job u given → AllByRecursion (IsRightEffect (IsRightValue job) (IsRightCell job) (IsUnit job)) (step_of job.depth job.operations u given)
  step_right u given is right = steps_right job u given (planned_job job kept) is right

  pub start_right : (command : ℕ) → AllByRecursion (IsRightEffect (IsRightValue job) (IsRightCell job) (IsUnit job)) (starting_of job.operations command job.ranks)
  start_right command = starts_right job command (planned_job job kept)

-- commands and starts, at any number of ranks

module _ (ops : List Operation) (owners : OwnerMap) (ranks command : ℕ) (count : IsRankCount ranks) where
  pub few_starts : length (starting_of ops command ranks) ≤ 2 ^ 16
  few_starts = form.few_starts ops owners ranks command count

  pub at_zero : AllByRecursion (NeedingRunsAt 0) (told owners ranks (starting_of ops command ranks))
  at_zero = form.at_zero ops owners ranks command count

  pub name_their_command : (future : Label) → Names (told owners ranks (starting_of ops command ranks)) future → future.command ≡ command
  name_their_command future names = form.name_their_command ops owners ranks command count future names

  pub due_once : (future : Label) → Names (told owners ranks (starting_of ops command ranks)) future → IsDueOnce future (told owners ranks (starting_of ops command ranks))
  due_once future names = form.due_once ops owners ranks command count future names

  pub needed_once : (future : Label) → Names (told owners ranks (starting_of ops command ranks)) future → result_of ops command ≢ Some future → IsNeededOnce future (told owners ranks (starting_of ops command ranks))
  needed_once future names other = form.needed_once ops owners ranks command count future names other

  pub result_unneeded : IfSome (result_of ops command) (λ future. IsNeededNever future (told owners ranks (starting_of ops command ranks)))
  result_unneeded = form.result_unneeded ops owners ranks command count

pub starts_are_spawns : (ops : List Operation) (command ranks : ℕ) → AllByRecursion (IsSpawn {U = Unit} {V = Value} {C = Node}) (starting_of ops command ranks)
starts_are_spawns ops command ranks = form.starts_are_spawns ops command ranks

pub starts_have_needs : (ops : List Operation) (command ranks : ℕ) → 1 ≤ ranks → AllByRecursion (IsSpawnedWithNeeds {U = Unit} {V = Value} {C = Node} needs_of) (starting_of ops command ranks)
starts_have_needs ops command ranks some = form.starts_have_needs ops command ranks some

pub result_of_work : (ops : List Operation) (command : ℕ) → IsCommand (kinds_of ops) command → IsSome (result_of ops command) ↔ IsWork (kinds_of ops) command
result_of_work ops command is = form.result_of_work ops command is

pub few_commands : (ops : List Operation) → length ops ≤ 512 → length (kinds_of ops) < 2 ^ 32 - 1
few_commands ops few = form.few_commands ops few

-- ranks

pub home_below : (owners : OwnerMap) (u : Unit) (ranks : ℕ) → IsRankCount ranks → home_of owners u ranks < ranks
home_below owners u ranks count = steps.homes owners u ranks count.0

pub kept_below : (owners : OwnerMap) (future : Label) (ranks : ℕ) → IsRankCount ranks → kept_at owners future ranks < ranks
kept_below owners future ranks count = by_rule (kept_rule_of owners future ranks)
  where
    by_rule : (rule : Option ℕ) → rank_within ranks rule < ranks
    by_rule None = let some = count.0 in omega (arith, some)
    by_rule (Some rank) = steps.homes owners (Count 0 rank) ranks count.0

pub label_tells_due : (u other : Unit) → label_of u ≡ label_of other → due_of u ≡ due_of other
label_tells_due u other same = steps.due u other same

pub spawns_have_needs : (depth : ℕ) (ops : List Operation) (u : Unit) (given : Given Value Node) → AllByRecursion (IsSpawnedWithNeeds needs_of) (step_of depth ops u given)
spawns_have_needs depth ops u given = steps.needs depth ops u given
