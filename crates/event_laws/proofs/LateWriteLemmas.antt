-- After a receipt no entry is put or erased that only units before the fence write.
use Rattle.std.proofs.Common.{◌≡◌, ◌⊎◌, ℕ, zero, suc, ◌<◌, true, List, [], ◌∷◌, refl, sym, ap, ◌∙◌, subst, inl, inr, ⊎_elim, arith}
use Rattle.std.specs.Prelude.{Some, slice_get, Contains, flat_map}
use Rattle.std.proofs.lemmas.Bool.{both_ways, or_cases, eqb-true}
use Rattle.std.proofs.lemmas.List.Elements.{Contains-append_left, Contains-append_right}
use Rattle.app_core.specs.declared.label.Label.{Label}
use Rattle.app_core.specs.declared.label.CellName.{CellName}
use Rattle.app_core.specs.declared.outline.Outline.{Outline}
use Rattle.app_core.specs.declared.outline.Outline.TheVariants as of
use Rattle.app_core.specs.Outlines.{touched, Touches}
use Rattle.event_lists.specs.declared.event.Event.{Event}
use Rattle.event_lists.specs.declared.event.Event.TheVariants.{Put, Erased, Receipt as Receives}
use Rattle.event_lists.specs.declared.receipt.Receipt.{Receipt}
use Rattle.event_lists.specs.declared.mark.Mark.{Mark}
use Rattle.event_lists.specs.Events.{part, Begins}
use Rattle.event_lists.specs.Fences.{is_receipt, has_receipt}
use Rattle.event_lists.proofs.ListLemmas.{begins_refl, begins_more, begins_tail}
use Rattle.event_laws.specs.Follows.{TaskEffects, Doing, Stores, Goes, IsRun, Says, carried_out}
use Rattle.event_laws.specs.Stages.{IsStaged}
use Rattle.event_laws.specs.Held.{HasReceipt}
use Rattle.event_laws.specs.Receipts.{IsWrittenBefore}
use Rattle.event_laws.proofs.PositionLemmas.{carried_begins}
use Rattle.event_laws.proofs.EventEffectLemmas.{says_put, says_erase}
use Rattle.event_laws.proofs.SettledFenceLemmas.{task_done, early_task}

-- where a fence has a receipt, it is at a mark
receipt_at : (f : ℕ) (log : List Mark) → has_receipt f log ≡ true → (y : Mark) × (before : List Mark) × (r : Receipt) × Begins (y ∷ before) log × (y.event ≡ Receives r) × (r.fence ≡ f)
receipt_at f [] h = absurd (cc)
receipt_at f (x ∷ log) h = ⊎_elim
    (λ t. let w = is x.event refl t in (x, log, w.0, begins_refl (x ∷ log), w.1, w.2))
    (λ t. let w = receipt_at f log t in (w.0, w.1, w.2, begins_more (w.0 ∷ w.1) log x w.3, w.4, w.5))
    (or_cases (is_receipt f x.event) (has_receipt f log) h)
  where
    is : (e : Event) → x.event ≡ e → is_receipt f e ≡ true → (r : Receipt) × (x.event ≡ Receives r) × (r.fence ≡ f)
    is (Receives r) i t = (r, i, eqb-true r.fence f t)
    is e i t = absurd (cc)

-- what an effect of a list puts or erases the list touches
pub touches : (os : List Outline) (i : ℕ) (o : Outline) (c : CellName) → slice_get os i ≡ Some o → (o ≡ of.Put c) ⊎ (o ≡ of.Erase c) → Touches os c
touches [] i o c at is = absurd (cc)
touches (p ∷ os) zero o c at is =
    let same : p ≡ o = cc in
    let has : touched p ≡ c ∷ [] = ⊎_elim (λ (e : o ≡ of.Put c). ap touched (same ∙ e)) (λ (e : o ≡ of.Erase c). ap touched (same ∙ e)) is in
    Contains-append_left (touched p) (flat_map touched os) c (subst (λ (cs : List CellName). Contains cs c) (sym has) (0, omega arith, refl))
touches (p ∷ os) (suc i) o c at is = Contains-append_right (touched p) (flat_map touched os) c (touches os i o c at is)

module _ (ranks workers : ℕ) (program : List Doing) (may : Label → List Outline → Type 0) (task_effects : TaskEffects) (log : List Mark) (x : Mark) (run : IsRun ranks workers program may task_effects (x ∷ log)) (c : CellName) where
  stores : (x.event ≡ Put c) ⊎ (x.event ≡ Erased c) → Stores task_effects log x c
  stores (inl e) = subst (Goes program task_effects log x (part x.lane log)) e run.follows.goes.0
  stores (inr e) = subst (Goes program task_effects log x (part x.lane log)) e run.follows.goes.0

  writes : (o : Outline) → (x.event ≡ Put c) ⊎ (x.event ≡ Erased c) → Says x.lane.rank o x.event → (o ≡ of.Put c) ⊎ (o ≡ of.Erase c)
  writes o (inl e) says = inl (says_put x.lane.rank o c (subst (Says x.lane.rank o) e says))
  writes o (inr e) says = inr (says_erase x.lane.rank o c (subst (Says x.lane.rank o) e says))

  pub none_later : (stage : Label → ℕ) → IsStaged program may stage → (x.event ≡ Put c) ⊎ (x.event ≡ Erased c) → (fence : ℕ) → has_receipt fence log ≡ true → IsWrittenBefore may stage fence c → ⊥
  none_later stage staged event fence received before =
      let s = stores event in
      let k = s.3 in
      let p = run.follows.planned s.0 s.1 k.os k.plan in
      let early = before p.task.unit k.os s.2 k.o p.may_do k.here (writes k.o event k.says) in
      let w = receipt_at fence log received in
      let has : HasReceipt (x ∷ log) w.1 w.0 w.2 = record { begins = begins_more (w.0 ∷ w.1) log x w.3; is = w.4 } in
      let was = early_task ranks workers program may task_effects (x ∷ log) w.1 w.0 w.2 run has stage staged s.0 s.1 p.task p.submitted (subst (λ (f : ℕ). stage p.task.unit < f) (sym w.5) early) in
      let done = task_done ranks workers program may task_effects (x ∷ log) w.1 w.0 w.2 run has s.0 s.1 p.task was in
      let both : Some done.0 ≡ Some k.os = sym done.2 ∙ k.plan in
      let same : k.os ≡ done.0 = cc in
      let carried = done.3 s.2 k.o (subst (λ (os : List Outline). slice_get os s.2 ≡ Some k.o) same k.here) in
      both_ways (carried_out s.0 s.1 s.2 log) k.once (carried_begins s.0 s.1 s.2 w.1 log (begins_tail w.0 w.1 log w.3) carried)
