-- What a put or an erase of a begun task finds in its bin.
use Rattle.std.proofs.Common.{◌≡◌, ◌⊎◌, ℕ, Bool, true, false, not, List, [], ◌∷◌, refl, sym, ap, ◌∙◌, subst, inl, inr, ⊎_elim}
use Rattle.std.specs.Prelude.{if◌then◌else◌, ◌==◌, Some, slice_get}
use Rattle.std.proofs.lemmas.Bool.{and_parts, and_from, eqb-true, eq-eqb, both_ways, cases_Bool, or_cases, or_left, or_right, false_from_ne_true}
use Rattle.app_core.specs.declared.label.CellName.{CellName}
use Rattle.app_core.specs.declared.outline.Outline.{Outline}
use Rattle.app_core.specs.declared.outline.Outline.TheVariants as of
use Rattle.event_lists.specs.declared.lane.LaneName.{LaneName}
use Rattle.event_lists.specs.declared.event.Event.{Event}
use Rattle.event_lists.specs.declared.event.Event.TheVariants.{Put, Erased}
use Rattle.event_lists.specs.declared.mark.Mark.{Mark}
use Rattle.event_lists.specs.Events.{Begins, StandsOn, part, same_lane}
use Rattle.event_lists.specs.Bins.{same_name, is_put}
use Rattle.event_lists.proofs.LaneLemmas.{same_lane_true, part_own}
use Rattle.event_lists.proofs.ListLemmas.{begins_tail, on_begins}
use Rattle.event_laws.specs.Follows.{TaskEffects, Doing, FollowsBy, Goes, Says, Stores, carried_out, bin_of}
use Rattle.event_laws.specs.Apart.{EffectsApart, ErasesPut}
use Rattle.event_laws.proofs.EventEffectLemmas.{says_put, says_erase}
use Rattle.event_laws.proofs.PositionLemmas.{stands_at, goes_at, carried_at}

pub same_name_true : (a b : CellName) → same_name a b ≡ true → a ≡ b
same_name_true a b e = let p = and_parts (a.version == b.version) (a.place == b.place) e in λ i. record { version = eqb-true a.version b.version p.0 i; place = eqb-true a.place b.place p.1 i }

pub same_name_refl : (a : CellName) → same_name a a ≡ true
same_name_refl a = and_from (a.version == a.version) (a.place == a.place) (eq-eqb a.version a.version refl) (eq-eqb a.place a.place refl)

-- where the last event of a name is a put, the list has a put
pub put_stands : (l : LaneName) (c : CellName) (log : List Mark) → is_put c (part l log) ≡ true → StandsOn l (Put c) log
put_stands l c [] p = absurd (cc)
put_stands l c (x ∷ log) p = go (put_stands l c log) (same_lane x.lane l) refl p
  where
    by_event : (is_put c (part l log) ≡ true → StandsOn l (Put c) log) → x.lane ≡ l → (e : Event) → x.event ≡ e → is_put c (e ∷ part l log) ≡ true → StandsOn l (Put c) (x ∷ log)
    by_event rest same (Put d) i p = ⊎_elim
        (λ t. inl (same, i ∙ ap Put (sym (same_name_true c d t))))
        (λ k. inr (rest k))
        (or_cases (same_name c d) (is_put c (part l log)) p)
    by_event rest same (Erased d) i p = inr (rest (and_parts (not (same_name c d)) (is_put c (part l log)) p).1)
    by_event rest same _ i p = inr (rest p)

    go : (is_put c (part l log) ≡ true → StandsOn l (Put c) log) → (b : Bool) → same_lane x.lane l ≡ b → is_put c (if b then x.event ∷ part l log else part l log) ≡ true → StandsOn l (Put c) (x ∷ log)
    go rest true e p = by_event rest (same_lane_true x.lane l e) x.event refl p
    go rest false e p = inr (rest p)

-- an entry that was put and isn't there was erased
put_or_erased : (l : LaneName) (c : CellName) (log : List Mark) → StandsOn l (Put c) log → (is_put c (part l log) ≡ true) ⊎ StandsOn l (Erased c) log
put_or_erased l c [] s = absurd s
put_or_erased l c (x ∷ log) (inl a) =
    let mine : part l (x ∷ log) ≡ Put c ∷ part x.lane log = part_own l x log a.0 ∙ ap (λ (e : Event). e ∷ part x.lane log) a.1 in
    inl (ap (is_put c) mine ∙ or_left (same_name c c) (is_put c (part x.lane log)) (same_name_refl c))
put_or_erased l c (x ∷ log) (inr s) = go (put_or_erased l c log s) (same_lane x.lane l) refl
  where
    by_event : x.lane ≡ l → (e : Event) → x.event ≡ e → is_put c (part l log) ≡ true → (is_put c (e ∷ part l log) ≡ true) ⊎ StandsOn l (Erased c) (x ∷ log)
    by_event same (Put d) i p = inl (or_right (same_name c d) (is_put c (part l log)) p)
    by_event same (Erased d) i p = ⊎_elim
        (λ t. inr (inl (same, i ∙ ap Erased (sym (same_name_true c d t)))))
        (λ f. inl (and_from (not (same_name c d)) (is_put c (part l log)) (ap not f) p))
        (cases_Bool (same_name c d))
    by_event same _ i p = inl p

    go : (is_put c (part l log) ≡ true) ⊎ StandsOn l (Erased c) log → (b : Bool) → same_lane x.lane l ≡ b → (is_put c (if b then x.event ∷ part l log else part l log) ≡ true) ⊎ StandsOn l (Erased c) (x ∷ log)
    go (inr t) b e = inr (inr t)
    go (inl p) true e = by_event (same_lane_true x.lane l e) x.event refl p
    go (inl p) false e = inl p

module _ (program : List Doing) (task_effects : TaskEffects) (log : List Mark) (follows : FollowsBy program task_effects log) where
  -- an effect of a begun task on an entry was carried out
  record Done (f : CellName → Outline) (c : CellName) : Type 0 where
    r : ℕ
    n : ℕ
    i : ℕ
    os : List Outline
    plan : task_effects r n ≡ Some os
    here : slice_get os i ≡ Some (f c)
    done : carried_out r n i log ≡ true

  done_at : (f : CellName → Outline) (c : CellName) (x : Mark) (before : List Mark) → Begins (x ∷ before) log → Stores task_effects before x c → ((o : Outline) → Says x.lane.rank o x.event → o ≡ f c) → Done f c
  done_at f c x before b s is =
      let d = s.3 in
      record { r = s.0; n = s.1; i = s.2; os = d.os; plan = d.plan; here = d.here ∙ ap Some (is d.o d.says); done = carried_at s.0 s.1 s.2 x before log b d.effect }

  put_done : (l : LaneName) (c : CellName) → StandsOn l (Put c) log → Done of.Put c
  put_done l c s =
      let a = stands_at l (Put c) log s in
      let goes = goes_at program task_effects a.0 a.1 log follows a.2 in
      let stores : Stores task_effects a.1 a.0 c = subst (Goes program task_effects a.1 a.0 (part a.0.lane a.1)) a.4 goes in
      done_at of.Put c a.0 a.1 a.2 stores (λ o says. says_put a.0.lane.rank o c (subst (Says a.0.lane.rank o) a.4 says))

  erase_done : (l : LaneName) (c : CellName) → StandsOn l (Erased c) log → Done of.Erase c
  erase_done l c s =
      let a = stands_at l (Erased c) log s in
      let goes = goes_at program task_effects a.0 a.1 log follows a.2 in
      let stores : Stores task_effects a.1 a.0 c = subst (Goes program task_effects a.1 a.0 (part a.0.lane a.1)) a.4 goes in
      done_at of.Erase c a.0 a.1 a.2 stores (λ o says. says_erase a.0.lane.rank o c (subst (Says a.0.lane.rank o) a.4 says))

  clash : (f : CellName → Outline) → EffectsApart f task_effects → (r n i : ℕ) (os : List Outline) (c : CellName) → task_effects r n ≡ Some os → slice_get os i ≡ Some (f c) → carried_out r n i log ≡ false → Done f c → ⊥
  clash f apart r n i os c plan at left d =
      let same = apart r n i d.r d.n d.i os d.os c plan d.plan at d.here in
      both_ways (carried_out r n i log) left ((λ k. carried_out (same.0 k) (same.1 k) (same.2 k) log) ∙ d.done)

  -- an entry that a begun task is yet to put isn't there
  pub put_finds_none : EffectsApart (λ c. of.Put c) task_effects → (r n i : ℕ) (os : List Outline) (c : CellName) (l : LaneName) → task_effects r n ≡ Some os → slice_get os i ≡ Some (of.Put c) → carried_out r n i log ≡ false → is_put c (part l log) ≡ false
  put_finds_none apart r n i os c l plan at left = false_from_ne_true (is_put c (part l log)) (λ p. clash of.Put apart r n i os c plan at left (put_done l c (put_stands l c log p)))

  -- an entry that a begun task is yet to erase is there
  pub erase_finds_it : EffectsApart (λ c. of.Erase c) task_effects → ErasesPut task_effects log → (r n i : ℕ) (os : List Outline) (c : CellName) → task_effects r n ≡ Some os → slice_get os i ≡ Some (of.Erase c) → carried_out r n i log ≡ false → is_put c (part (bin_of r c) log) ≡ true
  erase_finds_it apart put r n i os c plan at left =
      let p = put r n i os c plan at in
      let stands = on_begins (bin_of r c) (Put c) p.before log (begins_tail p.x p.before log p.begins) p.was_put in
      ⊎_elim
      (λ there. there)
      (λ gone. absurd (clash of.Erase apart r n i os c plan at left (erase_done (bin_of r c) c gone)))
      (put_or_erased (bin_of r c) c log stands)
