-- Lemmas that crates above use: where an application's units are known, so is what they have done at a receipt.
use Rattle.std.proofs.Common.{◌≡◌, ◌⊎◌, ℕ, ◌<◌, true, List, refl, sym, ap, ◌∙◌, subst, inl, inr, arith}
use Rattle.std.specs.Prelude.{◌↔◌, Some, slice_get, Contains}
use Rattle.app_core.specs.declared.label.Label.{Label}
use Rattle.app_core.specs.declared.label.CellName.{CellName}
use Rattle.app_core.specs.declared.outline.Outline.{Outline}
use Rattle.app_core.specs.declared.outline.Outline.TheVariants as of
use Rattle.event_lists.specs.declared.lane.LaneName.{LaneName}
use Rattle.event_lists.specs.declared.event.TaskName.{TaskName}
use Rattle.event_lists.specs.declared.receipt.Receipt.{Receipt}
use Rattle.event_lists.specs.declared.mark.Mark.{Mark}
use Rattle.event_lists.specs.Events.{part, main_of, IsSubmitted}
use Rattle.event_lists.specs.Bins.{is_put}
use Rattle.event_laws.specs.Follows.{TaskEffects, Doing, IsRun, bin_of, deeds}
use Rattle.event_laws.specs.Apart.{EffectsApart}
use Rattle.event_laws.specs.Stages.{IsStaged, Comes, started, spawned, IsOfFence, AsPlanned, AreUnits, UnitHas}
use Rattle.event_laws.specs.Done.{IsDone, HasDone}
use Rattle.event_laws.specs.Held.{HasReceipt}
use Rattle.event_laws.proofs.MainLemmas.{fences_grow}
use Rattle.event_laws.proofs.SettledFenceLemmas.{to_log, main_waits, start_done, spawn_done}
use Rattle.event_laws.proofs.TaskInductionLemmas.{of_tasks}
use Rattle.event_laws.proofs.BinContentLemmas.{lies, stays_so}

module _ (ranks workers : ℕ) (program : List Doing) (may : Label → List Outline → Type 0) (task_effects : TaskEffects) (log before : List Mark) (x : Mark) (r : Receipt)
    (run : IsRun ranks workers program may task_effects log) (has : HasReceipt log before x r) (stage : Label → ℕ) (staged : IsStaged program may stage) where
  -- each task before the receipt comes up, and before the fence
  pub comes_early : (q n : ℕ) (t : TaskName) → IsSubmitted q n t before → Comes program may t.unit q × (stage t.unit < r.fence)
  comes_early q n t s = of_tasks ranks workers program may task_effects log before run.legal run.follows (to_log ranks workers program may task_effects log before x r run has) (λ u q. Comes program may u q × (stage u < r.fence))
      (λ k u d ns home at lt. (
        started k u d ns home at,
        (let w = main_waits ranks workers program may task_effects log before x r run has in omega (arith, w.1, w.2, staged.starts k (of.Spawn u d ns home) u at refl, fences_grow program k (deeds (part (main_of 0) before)) (omega (arith, lt)))),
      ))
      (λ p q os i u d ns home c m at. (spawned p q os i u d ns home c.0 m at, subst (λ (z : ℕ). z < r.fence) (sym (staged.steps p os i (of.Spawn u d ns home) u m at refl)) c.1))
      q n t s

  module _ (Of : Label → Type 0) (of_fence : IsOfFence may stage r.fence Of) (plan : Label → List Outline) (home : Label → ℕ) (us : List Label) (units : AreUnits program may Of plan home us) where
    -- a task of the kind is one of the units, at its rank
    pub task_is : (q n : ℕ) (t : TaskName) → IsSubmitted q n t before → Of t.unit → Contains us t.unit × (q ≡ home t.unit)
    task_is q n t s is = units.all t.unit q (comes_early q n t s).0 is

    -- and has done what is planned
    planned : (u : Label) (q : ℕ) (os : List Outline) → IsDone may task_effects before q u os → Of u → IsDone may task_effects before q u (plan u)
    planned u q os d is =
        let named : d.task.unit ≡ u = d.label in
        let t = task_is q d.number d.task d.submitted (subst Of (sym named) is) in
        let lists = units.task_effects u os (subst (Contains us) named t.0) d.may_do in
        subst (λ (z : List Outline). IsDone may task_effects before q u z) lists d

    comes_done : (u : Label) (q : ℕ) → Comes program (AsPlanned plan Of) u q → Of u → IsDone may task_effects before q u (plan u)
    comes_done u q (started k _ d ns _ at) is =
        let d = start_done ranks workers program may task_effects log before x r run has k u d ns q at (subst (λ (z : ℕ). z < r.fence) (staged.starts k (of.Spawn u d ns q) u at refl) (of_fence.before u is)) in
        planned u q d.0 d.1 is
    comes_done u q (spawned p rank os i _ d ns _ c m at) is =
        let above = comes_done p rank c m.1 in
        let e = spawn_done ranks workers program may task_effects log before x r run has rank p (plan p) above i u d ns q (subst (λ (z : List Outline). slice_get z i ≡ Some (of.Spawn u d ns q)) m.0 at) in
        planned u q e.0 e.1 is

    -- each of the units is done
    pub unit_done : (u : Label) → Contains us u → IsDone may task_effects before (home u) u (plan u)
    unit_done u is = let o = units.only u is in comes_done u (home u) o.0 o.1

    pub unit_has : (q : ℕ) (o : Outline) → UnitHas plan home us q o → HasDone may task_effects before q o
    unit_has q o h = subst (λ (z : ℕ). HasDone may task_effects before z o) h.there (record { unit = h.unit; os = plan h.unit; done = unit_done h.unit h.is; at = h.at; here = h.here })

    pub has_unit : (q : ℕ) (o : Outline) → (d : HasDone may task_effects before q o) → Of d.unit → UnitHas plan home us q o
    has_unit q o d is =
        let named : d.done.task.unit ≡ d.unit = d.done.label in
        let t = task_is q d.done.number d.done.task d.done.submitted (subst Of (sym named) is) in
        let in_us : Contains us d.unit = subst (Contains us) named t.0 in
        let lists = units.task_effects d.unit d.os in_us d.done.may_do in
        record { unit = d.unit; is = in_us; there = sym (t.1 ∙ ap home named); at = d.at; here = subst (λ (z : List Outline). slice_get z d.at ≡ Some o) lists d.here }

    -- an entry that only such units put or erase lies in its bin where one of them puts it and none erases it, from the
    -- receipt on
    pub units_lie : EffectsApart (λ c. of.Put c) task_effects → (c : CellName) → ((p : Label) (os : List Outline) (i : ℕ) (o : Outline) → may p os → slice_get os i ≡ Some o → (o ≡ of.Put c) ⊎ (o ≡ of.Erase c) → Of p) → (l : LaneName)
        → ((is_put c (part l before) ≡ true) ↔ (UnitHas plan home us l.rank (of.Put c) × (UnitHas plan home us l.rank (of.Erase c) → ⊥) × (l ≡ bin_of l.rank c))) × (is_put c (part l log) ≡ is_put c (part l before))
    units_lie apart c writes l =
        let e = lies ranks workers program may task_effects log before x r run has apart l c in (
          (
            (λ p. let d = e.0 p in (has_unit l.rank (of.Put c) d.0 (writes d.0.unit d.0.os d.0.at (of.Put c) d.0.done.may_do d.0.here (inl refl)), (λ u. d.1 (unit_has l.rank (of.Erase c) u)), d.2)),
            (λ d. e.1 (unit_has l.rank (of.Put c) d.0, (λ u. d.1 (has_unit l.rank (of.Erase c) u (writes u.unit u.os u.at (of.Erase c) u.done.may_do u.here (inr refl)))), d.2)),
          ),
          stays_so ranks workers program may task_effects log before x r run has stage staged c (λ p os i o m at k. of_fence.before p (writes p os i o m at k)) l,
        )
