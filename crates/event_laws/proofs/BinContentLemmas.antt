-- The entries that lie in the bins at a receipt.
use Rattle.std.proofs.Common.{◌≡◌, ◌⊎◌, ℕ, ◌<◌, Bool, true, false, not, ◌&&◌, ◌||◌, List, [], ◌∷◌, ◌++◌, refl, sym, ap, ◌∙◌, subst, inl, inr, ⊎_elim, append_assoc}
use Rattle.std.specs.Prelude.{◌↔◌, if◌then◌else◌, Some, slice_get}
use Rattle.std.proofs.lemmas.Bool.{both_ways, or_cases, or_left, or_right, and_parts, and_from, cases_Bool}
use Rattle.app_core.specs.declared.label.Label.{Label}
use Rattle.app_core.specs.declared.label.CellName.{CellName}
use Rattle.app_core.specs.declared.outline.Outline.{Outline}
use Rattle.app_core.specs.declared.outline.Outline.TheVariants as of
use Rattle.event_lists.specs.declared.lane.LaneName.{LaneName}
use Rattle.event_lists.specs.declared.event.Event.{Event}
use Rattle.event_lists.specs.declared.event.Event.TheVariants.{Put, Erased}
use Rattle.event_lists.specs.declared.receipt.Receipt.{Receipt}
use Rattle.event_lists.specs.declared.mark.Mark.{Mark}
use Rattle.event_lists.specs.Events.{part, same_lane, Begins, StandsOn}
use Rattle.event_lists.specs.Bins.{Bins, same_name, is_put}
use Rattle.event_lists.specs.Legal.{Legal}
use Rattle.event_lists.proofs.LaneLemmas.{same_lane_true, same_lane_refl}
use Rattle.event_lists.proofs.ListLemmas.{legal_begins, begins_tail, on_begins}
use Rattle.event_laws.specs.Follows.{TaskEffects, Doing, FollowsBy, Goes, CarriesOut, IsRun, Says, bin_of, carried_out}
use Rattle.event_laws.specs.Apart.{EffectsApart}
use Rattle.event_laws.specs.Stages.{IsStaged}
use Rattle.event_laws.specs.Done.{HasDone}
use Rattle.event_laws.specs.Held.{HasReceipt}
use Rattle.event_laws.proofs.PositionLemmas.{goes_at, stands_at, at_stands, carried_begins}
use Rattle.event_laws.proofs.SourceLemmas.{task_submitted}
use Rattle.event_laws.proofs.EventEffectLemmas.{says_put, says_erase}
use Rattle.event_laws.proofs.EntryLemmas.{same_name_true, same_name_refl, put_stands}
use Rattle.event_laws.proofs.EffectMarkLemmas.{effect_at, effect_by, is_named, carried_here}
use Rattle.event_laws.proofs.ParcelLemmas.{submitted_begins}
use Rattle.event_laws.proofs.SettledFenceLemmas.{legal_now, follows_now, task_done, early_task}

-- a lane's last event of a name is a put where it was put there and not erased
pub put_stays : (l : LaneName) (c : CellName) (log : List Mark) → StandsOn l (Put c) log → (StandsOn l (Erased c) log → ⊥) → is_put c (part l log) ≡ true
put_stays l c [] s none = absurd s
put_stays l c (x ∷ log) s none = by_lane (λ h. put_stays l c log h (λ e. none (inr e))) (same_lane x.lane l) refl
  where
    kept : (e : Event) → ((x.lane ≡ l) × (x.event ≡ Put c)) ⊎ StandsOn l (Put c) log → x.event ≡ e → (e ≡ Put c → ⊥) → StandsOn l (Put c) log
    kept e (inl h) is other = absurd (other (sym is ∙ h.1))
    kept e (inr h) is other = h

    by_event : (StandsOn l (Put c) log → is_put c (part l log) ≡ true) → x.lane ≡ l → (e : Event) → x.event ≡ e → is_put c (e ∷ part l log) ≡ true
    by_event rec same (Put d) is = ⊎_elim
        (λ t. or_left (same_name c d) (is_put c (part l log)) t)
        (λ f. or_right (same_name c d) (is_put c (part l log)) (rec (kept (Put d) s is (λ e. let z : d ≡ c = cc in both_ways (same_name c d) f (subst (λ (w : CellName). same_name c w ≡ true) (sym z) (same_name_refl c))))))
        (cases_Bool (same_name c d))
    by_event rec same (Erased d) is = ⊎_elim
        (λ t. absurd (none (inl (same, is ∙ ap Erased (sym (same_name_true c d t))))))
        (λ f. and_from (not (same_name c d)) (is_put c (part l log)) (ap not f) (rec (kept (Erased d) s is (λ e. absurd (cc)))))
        (cases_Bool (same_name c d))
    by_event rec same _ is = rec (kept _ s is (λ e. absurd (cc)))

    by_lane : (StandsOn l (Put c) log → is_put c (part l log) ≡ true) → (b : Bool) → same_lane x.lane l ≡ b → is_put c (if b then x.event ∷ part l log else part l log) ≡ true
    by_lane rec true e = by_event rec (same_lane_true x.lane l e) x.event refl
    by_lane rec false e = rec (⊎_elim (λ h. absurd (both_ways (same_lane x.lane l) e (subst (λ (m : LaneName). same_lane x.lane m ≡ true) h.0 (same_lane_refl x.lane)))) (λ h. h) s)

same_put : (l : LaneName) (c : CellName) (y : Mark) (log : List Mark) → (y.event ≡ Put c → ⊥) → (y.event ≡ Erased c → ⊥) → is_put c (part l (y ∷ log)) ≡ is_put c (part l log)
same_put l c y log no_put no_erase = go (same_lane y.lane l)
  where
    by_event : (e : Event) → y.event ≡ e → is_put c (e ∷ part l log) ≡ is_put c (part l log)
    by_event (Put d) is = ⊎_elim
        (λ t. absurd (no_put (is ∙ ap Put (sym (same_name_true c d t)))))
        (λ f. ap (λ (b : Bool). b || is_put c (part l log)) f)
        (cases_Bool (same_name c d))
    by_event (Erased d) is = ⊎_elim
        (λ t. absurd (no_erase (is ∙ ap Erased (sym (same_name_true c d t)))))
        (λ f. ap (λ (b : Bool). not b && is_put c (part l log)) f)
        (cases_Bool (same_name c d))
    by_event _ is = refl

    go : (b : Bool) → is_put c (if b then y.event ∷ part l log else part l log) ≡ is_put c (part l log)
    go true = by_event y.event refl
    go false = refl

module _ (ranks workers : ℕ) (program : List Doing) (task_effects : TaskEffects) (apart : EffectsApart (λ c. of.Put c) task_effects) where
  -- an entry is put once
  once : (x : Mark) (log : List Mark) → FollowsBy program task_effects (x ∷ log) → (l : LaneName) (c : CellName) → x.event ≡ Put c → StandsOn l (Put c) log → ⊥
  once x log f l c is s =
      let z = stands_at l (Put c) log s in
      let g = subst (Goes program task_effects log x (part x.lane log)) is f.0 in
      let h = subst (Goes program task_effects z.1 z.0 (part z.0.lane z.1)) z.4 (goes_at program task_effects z.0 z.1 log f.1 z.2) in
      let a = g.3 in
      let b = h.3 in
      let a_is = a.here ∙ ap Some (says_put x.lane.rank a.o c (a.says.0, sym is ∙ a.says.1)) in
      let b_is = b.here ∙ ap Some (says_put z.0.lane.rank b.o c (b.says.0, sym z.4 ∙ b.says.1)) in
      let same = apart g.0 g.1 g.2 h.0 h.1 h.2 a.os b.os c a.plan b.plan a_is b_is in
      let there : carried_out h.0 h.1 h.2 log ≡ true = carried_begins h.0 h.1 h.2 (z.0 ∷ z.1) log z.2 (carried_here h.0 h.1 h.2 z.0 z.1 (is_named h.0 h.1 h.2 z.0.effect b.effect)) in
      both_ways (carried_out g.0 g.1 g.2 log) a.once ((λ j. carried_out (same.0 j) (same.1 j) (same.2 j) log) ∙ there)

  -- so one that was erased is no longer there
  gone : (log : List Mark) → Legal ranks workers log → FollowsBy program task_effects log → (l : LaneName) (c : CellName) → StandsOn l (Erased c) log → is_put c (part l log) ≡ true → ⊥
  gone [] h f l c s e = s
  gone (x ∷ log) h f l c s e = by_lane (λ s e. gone log h.1 f.1 l c s e) (same_lane x.lane l) refl e
    where
      older : (e : Event) → x.event ≡ e → (e ≡ Erased c → ⊥) → StandsOn l (Erased c) log
      older e is other = ⊎_elim (λ (here : (x.lane ≡ l) × (x.event ≡ Erased c)). absurd (other (sym is ∙ here.1))) (λ there. there) s

      by_event : (StandsOn l (Erased c) log → is_put c (part l log) ≡ true → ⊥) → (e : Event) → x.event ≡ e → is_put c (e ∷ part l log) ≡ true → ⊥
      by_event rec (Put d) is p = ⊎_elim
          (λ t.
          let again = older (Put d) is (λ e. absurd (cc)) in
          let z = stands_at l (Erased c) log again in
          let legal = legal_begins ranks workers (z.0 ∷ z.1) log z.2 h.1 in
          let bins : Bins z.0.lane (part z.0.lane z.1) (Erased c) = subst (Bins z.0.lane (part z.0.lane z.1)) z.4 legal.0.bins in
          let was : is_put c (part l z.1) ≡ true = subst (λ (m : LaneName). is_put c (part m z.1) ≡ true) z.3 bins.1 in
          once x log f l c (is ∙ ap Put (sym (same_name_true c d t))) (on_begins l (Put c) z.1 log (begins_tail z.0 z.1 log z.2) (put_stands l c z.1 was)))
          (λ t. rec (older (Put d) is (λ e. absurd (cc))) t)
          (or_cases (same_name c d) (is_put c (part l log)) p)
      by_event rec (Erased d) is p =
          let parts = and_parts (not (same_name c d)) (is_put c (part l log)) p in
          rec (older (Erased d) is (λ e. let z : d ≡ c = cc in both_ways (not (same_name c d)) (ap not (subst (λ (w : CellName). same_name c w ≡ true) (sym z) (same_name_refl c))) parts.0)) parts.1
      by_event rec _ is p = rec (older _ is (λ e. absurd (cc))) p

      by_lane : (StandsOn l (Erased c) log → is_put c (part l log) ≡ true → ⊥) → (b : Bool) → same_lane x.lane l ≡ b → is_put c (if b then x.event ∷ part l log else part l log) ≡ true → ⊥
      by_lane rec true i p = by_event rec x.event refl p
      by_lane rec false i p = rec (⊎_elim (λ (here : (x.lane ≡ l) × (x.event ≡ Erased c)). absurd (both_ways (same_lane x.lane l) i (subst (λ (m : LaneName). same_lane x.lane m ≡ true) here.0 (same_lane_refl x.lane)))) (λ there. there) s) p

module _ (ranks workers : ℕ) (program : List Doing) (may : Label → List Outline → Type 0) (task_effects : TaskEffects) (log before : List Mark) (x : Mark) (r : Receipt)
    (run : IsRun ranks workers program may task_effects log) (has : HasReceipt log before x r) where
  -- what carries out an effect before the receipt is done
  carrier : (y : Mark) (earlier : List Mark) → Begins (y ∷ earlier) before → (q n i : ℕ) → CarriesOut task_effects earlier y q n i → (o : Outline) → ((c : Outline) → Says y.lane.rank c y.event → c ≡ o) → HasDone may task_effects before y.lane.rank o
  carrier y earlier to q n i c o is =
      let now = legal_now ranks workers program may task_effects log before x r run has in
      let back = begins_tail y earlier before to in
      let legal = legal_begins ranks workers earlier before back now in
      let s = task_submitted ranks workers earlier legal q n c.taken in
      let d = task_done ranks workers program may task_effects log before x r run has q n s.0 (submitted_begins ranks workers q n s.0 earlier before back s.1) in
      let lists : c.os ≡ d.0 = (let e = sym c.plan ∙ d.2 in cc) in
      let at : slice_get d.0 i ≡ Some o = ap (λ (z : List Outline). slice_get z i) (sym lists) ∙ c.here ∙ ap Some (is c.o c.says) in
      subst (λ (z : ℕ). HasDone may task_effects before z o) c.rank (record { unit = s.0.unit; os = d.0; done = d.1; at = i; here = at })

  -- the mark of what was done
  mark_of : (q : ℕ) (o : Outline) → HasDone may task_effects before q o → (y : Mark) × (earlier : List Mark) × Begins (y ∷ earlier) before × (q ≡ y.lane.rank) × Says y.lane.rank o y.event
  mark_of q o d =
      let now = follows_now ranks workers program may task_effects log before x r run has in
      let y = effect_at q d.done.number d.at before (d.done.all d.at o d.here) in
      let c = effect_by program task_effects y.1 y.0 (goes_at program task_effects y.0 y.1 before now y.2) q d.done.number d.at y.3 in
      let lists : c.os ≡ d.os = (let e = sym c.plan ∙ d.done.plan in cc) in
      let same : Some c.o ≡ Some o = sym c.here ∙ ap (λ (z : List Outline). slice_get z d.at) lists ∙ d.here in
      let is : c.o ≡ o = cc in
      (y.0, y.1, y.2, c.rank, subst (λ (z : Outline). Says y.0.lane.rank z y.0.event) is c.says)

  put_done : (l : LaneName) (c : CellName) → StandsOn l (Put c) before → HasDone may task_effects before l.rank (of.Put c) × (l ≡ bin_of l.rank c)
  put_done l c s =
      let now = follows_now ranks workers program may task_effects log before x r run has in
      let y = stands_at l (Put c) before s in
      let g = subst (Goes program task_effects y.1 y.0 (part y.0.lane y.1)) y.4 (goes_at program task_effects y.0 y.1 before now y.2) in
      subst (λ (m : LaneName). HasDone may task_effects before m.rank (of.Put c) × (m ≡ bin_of m.rank c)) y.3
      (carrier y.0 y.1 y.2 g.0 g.1 g.2 g.3 (of.Put c) (λ o s. says_put y.0.lane.rank o c (s.0, sym y.4 ∙ s.1)), g.4)

  erase_done : (l : LaneName) (c : CellName) → StandsOn l (Erased c) before → HasDone may task_effects before l.rank (of.Erase c)
  erase_done l c s =
      let now = follows_now ranks workers program may task_effects log before x r run has in
      let y = stands_at l (Erased c) before s in
      let g = subst (Goes program task_effects y.1 y.0 (part y.0.lane y.1)) y.4 (goes_at program task_effects y.0 y.1 before now y.2) in
      subst (λ (m : LaneName). HasDone may task_effects before m.rank (of.Erase c)) y.3
      (carrier y.0 y.1 y.2 g.0 g.1 g.2 g.3 (of.Erase c) (λ o s. says_erase y.0.lane.rank o c (s.0, sym y.4 ∙ s.1)))

  done_put : (q : ℕ) (c : CellName) → HasDone may task_effects before q (of.Put c) → StandsOn (bin_of q c) (Put c) before
  done_put q c d =
      let now = follows_now ranks workers program may task_effects log before x r run has in
      let y = mark_of q (of.Put c) d in
      let is : y.0.event ≡ Put c = y.4.1 in
      let g = subst (Goes program task_effects y.1 y.0 (part y.0.lane y.1)) is (goes_at program task_effects y.0 y.1 before now y.2) in
      subst (λ (m : LaneName). StandsOn m (Put c) before) (g.4 ∙ ap (λ (z : ℕ). bin_of z c) (sym y.3)) (subst (λ (e : Event). StandsOn y.0.lane e before) is (at_stands y.0 y.1 before y.2))

  done_erase : (q : ℕ) (c : CellName) → HasDone may task_effects before q (of.Erase c) → StandsOn (bin_of q c) (Erased c) before
  done_erase q c d =
      let now = follows_now ranks workers program may task_effects log before x r run has in
      let y = mark_of q (of.Erase c) d in
      let is : y.0.event ≡ Erased c = y.4.1 in
      let g = subst (Goes program task_effects y.1 y.0 (part y.0.lane y.1)) is (goes_at program task_effects y.0 y.1 before now y.2) in
      subst (λ (m : LaneName). StandsOn m (Erased c) before) (g.4 ∙ ap (λ (z : ℕ). bin_of z c) (sym y.3)) (subst (λ (e : Event). StandsOn y.0.lane e before) is (at_stands y.0 y.1 before y.2))

  -- an entry lies in its bin where a unit has put it and none has erased it
  pub lies : EffectsApart (λ c. of.Put c) task_effects → (l : LaneName) (c : CellName)
      → (is_put c (part l before) ≡ true) ↔ (HasDone may task_effects before l.rank (of.Put c) × (HasDone may task_effects before l.rank (of.Erase c) → ⊥) × (l ≡ bin_of l.rank c))
  lies apart l c = (
    (λ p.
        let s = put_done l c (put_stands l c before p) in (
          s.0,
          (λ e. gone ranks workers program task_effects apart before (legal_now ranks workers program may task_effects log before x r run has) (follows_now ranks workers program may task_effects log before x r run has) l c
              (subst (λ (m : LaneName). StandsOn m (Erased c) before) (sym s.1) (done_erase l.rank c e)) p),
          s.1,
        )),
    (λ d. put_stays l c before (subst (λ (m : LaneName). StandsOn m (Put c) before) (sym d.2) (done_put l.rank c d.0)) (λ s. d.1 (erase_done l c s))),
  )

  module _ (stage : Label → ℕ) (staged : IsStaged program may stage) (c : CellName) (early : (p : Label) (os : List Outline) (i : ℕ) (o : Outline) → may p os → slice_get os i ≡ Some o → (o ≡ of.Put c) ⊎ (o ≡ of.Erase c) → stage p < r.fence) where
    -- no effect of such a unit is carried out after the receipt
    too_late : (y : Mark) (more : List Mark) → Begins (y ∷ (more ++ x ∷ before)) log → (q n i : ℕ) → CarriesOut task_effects (more ++ x ∷ before) y q n i → (o : Outline) → ((d : Outline) → Says y.lane.rank d y.event → d ≡ o) → (o ≡ of.Put c) ⊎ (o ≡ of.Erase c) → ⊥
    too_late y more to q n i g o is kind =
        let p = run.follows.planned q n g.os g.plan in
        let stage_is = early p.task.unit g.os i g.o p.may_do g.here (subst (λ (z : Outline). (z ≡ of.Put c) ⊎ (z ≡ of.Erase c)) (sym (is g.o g.says)) kind) in
        let s = early_task ranks workers program may task_effects log before x r run has stage staged q n p.task p.submitted stage_is in
        let d = task_done ranks workers program may task_effects log before x r run has q n p.task s in
        let lists : g.os ≡ d.0 = (let e = sym g.plan ∙ d.2 in cc) in
        let done = d.3 i g.o (ap (λ (z : List Outline). slice_get z i) (sym lists) ∙ g.here) in
        both_ways (carried_out q n i (more ++ x ∷ before)) g.once (carried_begins q n i before (more ++ x ∷ before) (more ++ x ∷ [], sym (append_assoc more (x ∷ []) before)) done)

    -- so the entry lies there from then on, or not
    pub stays_so : (l : LaneName) → is_put c (part l log) ≡ is_put c (part l before)
    stays_so l = ap (λ (z : List Mark). is_put c (part l z)) has.begins.1 ∙ behind has.begins.0 [] has.begins.1
      where
        behind : (more front : List Mark) → log ≡ front ++ (more ++ x ∷ before) → is_put c (part l (more ++ x ∷ before)) ≡ is_put c (part l before)
        behind [] front whole = same_put l c x before (λ e. let z = sym has.is ∙ e in absurd (cc)) (λ e. let z = sym has.is ∙ e in absurd (cc))
        behind (y ∷ more) front whole = same_put l c y (more ++ x ∷ before) (λ e. by_put e) (λ e. by_erase e) ∙ behind more (front ++ y ∷ []) (whole ∙ sym (append_assoc front (y ∷ []) (more ++ x ∷ before)))
          where
            goes : Goes program task_effects (more ++ x ∷ before) y (part y.lane (more ++ x ∷ before)) y.event
            goes = goes_at program task_effects y (more ++ x ∷ before) log run.follows.goes (front, whole)

            by_put : y.event ≡ Put c → ⊥
            by_put e = let g = subst (Goes program task_effects (more ++ x ∷ before) y (part y.lane (more ++ x ∷ before))) e goes in too_late y more (front, whole) g.0 g.1 g.2 g.3 (of.Put c) (λ o s. says_put y.lane.rank o c (s.0, sym e ∙ s.1)) (inl refl)

            by_erase : y.event ≡ Erased c → ⊥
            by_erase e = let g = subst (Goes program task_effects (more ++ x ∷ before) y (part y.lane (more ++ x ∷ before))) e goes in too_late y more (front, whole) g.0 g.1 g.2 g.3 (of.Erase c) (λ o s. says_erase y.lane.rank o c (s.0, sym e ∙ s.1)) (inr refl)
