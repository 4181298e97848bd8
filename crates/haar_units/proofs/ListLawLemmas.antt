-- The laws on lists of events that hold whatever overflows.
use Rattle.std.proofs.Common.{◌≡◌, ℕ, Bool, true, false, List, ◌∷◌, refl, sym, ap, ◌∙◌, subst, arith}
use Rattle.std.specs.Prelude.{if◌then◌else◌, Some, None}
use Rattle.std.proofs.lemmas.Bool.{or_left, or_right}
use Rattle.app_core.specs.declared.label.Label.{Label}
use Rattle.app_core.specs.declared.label.CellName.{CellName}
use Rattle.app_core.specs.declared.outline.Outline.{Outline}
use Rattle.app_core.specs.declared.outline.Outline.TheVariants as of
use Rattle.app_core.specs.Outlines.{Touches}
use Rattle.event_laws.proofs.SourceLemmas.{apart}
use Rattle.event_laws.proofs.BringerLemmas.{one_bringer, effects_apart}
use Rattle.event_laws.proofs.EraseLemmas.{erases_put}
use Rattle.haar_units.specs.Jobs.{Operation, DistributedJob, is_coarsen, puts_down, puts_up}
use Rattle.haar_units.specs.Units.{parent, creator, due, needs, home, entry}
use Rattle.haar_units.specs.Starts.{program}
use Rattle.haar_units.specs.Jobs.Operation.{Coarsen}
use Rattle.haar_units.specs.Actions.{Action, fits, rest_of, outlines_of, Allowed}
use Rattle.haar_units.specs.Actions.Action.{Stop, Descend, Combine, Merge, Erase, Count, Sum}
use Rattle.haar_units.specs.Bins.{writes, writer_if, writer_of}
use Rattle.haar_units.specs.ListLaws.{RunsKeepTheLaws}
use Rattle.haar_units.proofs.LabelTreeLemmas.{tree, start_tells, command_stays}
use Rattle.haar_units.proofs.FutureLemmas.{futures, places}
use Rattle.haar_units.proofs.EntryLemmas.{puts_once, erases_once, eraser_waits}
use Rattle.haar_units.proofs.StepLemmas.{sound}

coarsen_writes : (w : Operation) → is_coarsen w ≡ true → writes w ≡ true
coarsen_writes Coarsen e = refl
coarsen_writes w e = absurd (cc)

-- a command whose units put or erase is one that writes
touching : (job : DistributedJob) (w : Operation) (a : Action) (c x : ℕ) (n : CellName) → fits w a ≡ true → Touches (outlines_of job w a c x) n → writes w ≡ true
touching job w Stop c x n f t = go (writes w) t
  where
    go : (b : Bool) → Touches (if b then of.Put (entry c x) ∷ rest_of job Stop c x else rest_of job Stop c x) n → b ≡ true
    go true t = refl
    go false (k, lt, e) = absurd (omega (arith, lt))
touching job w Descend c x n f t = or_left (puts_down w) (puts_up w) (go (puts_down w) t)
  where
    go : (b : Bool) → Touches (if b then of.Put (entry c x) ∷ rest_of job Descend c x else rest_of job Descend c x) n → b ≡ true
    go true t = refl
    go false (k, lt, e) = absurd (omega (arith, lt))
touching job w Combine c x n f t = or_right (puts_down w) (puts_up w) (go (puts_up w) t)
  where
    go : (b : Bool) → Touches (if b then of.Put (entry c x) ∷ rest_of job Combine c x else rest_of job Combine c x) n → b ≡ true
    go true t = refl
    go false (k, lt, e) = absurd (omega (arith, lt))
touching job w Merge c x n f t = coarsen_writes w f
touching job w Erase c x n f t = coarsen_writes w f
touching job w Count c x n f (k, lt, e) = absurd (omega (arith, lt))
touching job w Sum c x n f (k, lt, e) = absurd (omega (arith, lt))

written : (job : DistributedJob) (p : Label) (os : List Outline) (n : CellName) → Allowed job p os → Touches os n → writer_of job n.version ≡ Some p.command
written job p os n m t =
    let own : entry p.command p.place ≡ n = (sound job p os m).touches n t in
    let version : n.version ≡ p.command = sym (ap (λ (z : CellName). z.version) own) in
    let writing = touching job m.operation m.action p.command p.place n m.fit (subst (λ (z : List Outline). Touches z n) m.lists t) in
    ap (writer_of job) version ∙ ap (writer_if p.command) m.at ∙ ap (λ (b : Bool). if b then Some p.command else None) writing

pub laws_kept : (may : Label → List Outline → Type 0) → RunsKeepTheLaws may
laws_kept may job within = record {
  spawns_apart = λ task_effects log workers run. apart job.ranks workers (program job) may task_effects log run parent (tree job may within);
  one_bringer = λ task_effects log workers run. one_bringer job.ranks workers (program job) may task_effects log run creator due (futures job may within) parent (tree job may within);
  puts_apart = λ task_effects log workers run. effects_apart job.ranks workers (program job) may task_effects log run parent (tree job may within) (λ c. of.Put c) (puts_once job may within);
  erases_apart = λ task_effects log workers run. effects_apart job.ranks workers (program job) may task_effects log run parent (tree job may within) (λ c. of.Erase c) (erases_once job may within);
  erases_put = λ task_effects log workers run. erases_put job.ranks workers (program job) may task_effects log run parent (tree job may within) (home job) (needs job) (places job may within) (eraser_waits job may within);
  starts_are_of_the_command = λ c i o u work e unit. (start_tells job c i o u e unit).0;
  spawns_stay_in_their_command = command_stays job may within;
  writes_are_of_the_command = λ p os n m t. written job p os n (within p os m) t;
}
