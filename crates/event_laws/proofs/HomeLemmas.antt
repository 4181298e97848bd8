-- A task was submitted at the home of its unit's label, with the needs of this label.
use Rattle.std.proofs.Common.{◌≡◌, ◌≢◌, ◌⊎◌, ⊎_elim, ℕ, List, [], ◌∷◌, refl, sym, ap, ◌∙◌, subst, inl, inr}
use Rattle.std.specs.Prelude.{Option, Some, Contains}
use Rattle.app_core.specs.declared.label.Label.{Label}
use Rattle.app_core.specs.declared.outline.Outline.{Outline}
use Rattle.app_core.specs.declared.outline.Outline.TheVariants as of
use Rattle.event_lists.specs.declared.lane.LaneName.{LaneName}
use Rattle.event_lists.specs.declared.event.Event.TheVariants.{Sent, Submitted}
use Rattle.event_lists.specs.declared.event.Parcel.TheVariants.{Unit as Spawned}
use Rattle.event_lists.specs.declared.event.TaskName.{TaskName}
use Rattle.event_lists.specs.declared.mark.Item.TheVariants.{Message}
use Rattle.event_lists.specs.declared.mark.Mark.{Mark}
use Rattle.event_lists.specs.declared.kind.Kind.TheVariants.{Sends as sends}
use Rattle.event_lists.specs.Events.{Begins, part, in_hand, IsSent, IsSubmitted}
use Rattle.event_lists.proofs.ListLemmas.{legal_begins, begins_tail, begins_trans, on_begins}
use Rattle.event_lists.proofs.CountLemmas.{same_event}
use Rattle.event_lists.proofs.HandLemmas.{hand_sent}
use Rattle.event_laws.specs.Follows.{TaskEffects, Doing, Start, deeds, Says, IsRun}
use Rattle.event_laws.specs.Trees.{IsPlaced}
use Rattle.event_laws.specs.Apart.{spawn_label}
use Rattle.event_laws.proofs.MemberLemmas.{none_in}
use Rattle.event_laws.proofs.PositionLemmas.{stands_at}
use Rattle.event_laws.proofs.EventEffectLemmas.{submits_is, sends_is}
use Rattle.event_laws.proofs.SpawnLemmas.{Origin, itself, carried, origin}
use Rattle.event_laws.proofs.SourceLemmas.{planned_at, Source, of_main, of_task, source}

module _ (ranks workers : ℕ) (program : List Doing) (may : Label → List Outline → Type 0) (task_effects : TaskEffects) (end : List Mark) (run : IsRun ranks workers program may task_effects end) (home : Label → ℕ) (needs : Label → List Label) (placed : IsPlaced program may home needs) where
  -- a spawn is of an effect that goes to its unit's home
  record Goal (u : Label) (x : Mark) (before : List Mark) : Type 0 where
    o : Outline
    says : Says x.lane.rank o x.event
    right : (d : Option Label) (ns : List Label) (h : ℕ) → o ≡ of.Spawn u d ns h → (h ≡ home u) × (ns ≡ needs u)
    near : (d : Option Label) (ns : List Label) (h : ℕ) → o ≡ of.Spawn u d ns h → ns ≢ [] → ((h ≡ 0) × (x.lane.rank ≡ 0)) ⊎ ((n : ℕ) × (t : TaskName) × IsSubmitted x.lane.rank n t end × (h ≡ home t.unit))

  goal_at : (u : Label) (x : Mark) (before : List Mark) → Begins (x ∷ before) end → spawn_label (in_hand (part x.lane before)) x.event ≡ Some u → Goal u x before
  goal_at u x before b l = from (source ranks workers program may task_effects end run u x before b l)
    where
      from : Source ranks workers program may task_effects end run u x before → Goal u x before
      from (of_main hand lane done o at says unit) = record {
        o = o;
        says = says;
        right = λ d ns h is. let s = placed.starts (deeds (part x.lane before)) u d ns h (at ∙ ap (λ (z : Outline). Some (Start z)) is) in (s.0, s.1);
        near = λ d ns h is some. let s = placed.starts (deeds (part x.lane before)) u d ns h (at ∙ ap (λ (z : Outline). Some (Start z)) is) in inl (s.2 some, ap (λ (l : LaneName). l.rank) lane);
      }
      from (of_task r n i hand c unit) =
          let p = planned_at ranks workers program may task_effects end run r n c.os before (begins_tail x before end b) c.plan c.taken in
          let here : IsSubmitted r n p.0 end = (p.1.0, p.1.1, on_begins p.1.0 (Submitted n p.0) before end (begins_tail x before end b) p.1.2) in
          record {
            o = c.o;
            says = c.says;
            right = λ d ns h is. let s = placed.steps (p.0).unit c.os i u d ns h p.2 (c.here ∙ ap Some is) in (s.0, s.1);
            near = λ d ns h is some. let s = placed.steps (p.0).unit c.os i u d ns h p.2 (c.here ∙ ap Some is) in inr (n, p.0, subst (λ (q : ℕ). IsSubmitted q n p.0 end) c.rank here, s.2 some);
          }

  -- a message in hand was sent to the lane's rank
  goes_here : (x : Mark) (before : List Mark) → Begins before end → (q m to : ℕ) (u : Label) (d : Option Label) → in_hand (part x.lane before) ≡ Some (Message q m) → IsSent q m to (Spawned u d) before → to ≡ x.lane.rank
  goes_here x before b q m to u d hand sent =
      let legal = legal_begins ranks workers before end b run.legal in
      let s = hand_sent ranks workers before legal x.lane q m hand in
      let same = (same_event ranks workers before legal sends m sent.0 s.1.0 (Sent m to (Spawned u d)) (Sent m x.lane.rank s.0) refl refl (sent.1 ∙ sym s.1.1) sent.2 s.1.2).1 in
      cc

  module _ (n : ℕ) (t : TaskName) (x : Mark) (before : List Mark) (b : Begins (x ∷ before) end) (is : x.event ≡ Submitted n t) where
    direct : spawn_label (in_hand (part x.lane before)) x.event ≡ Some t.unit → (x.lane.rank ≡ home t.unit) × (t.needs ≡ needs t.unit)
    direct l =
        let g = goal_at t.unit x before b l in
        g.right t.due t.needs x.lane.rank (submits_is x.lane.rank g.o n t (subst (Says x.lane.rank g.o) is g.says))

    -- the message that carried a unit
    record Carrier (q m to : ℕ) : Type 0 where
      z : Mark
      earlier : List Mark
      begins : Begins (z ∷ earlier) end
      sent : z.event ≡ Sent m to (Spawned t.unit t.due)

    carrier : (q m to : ℕ) → IsSent q m to (Spawned t.unit t.due) before → Carrier q m to
    carrier q m to sent =
        let a = stands_at sent.0 (Sent m to (Spawned t.unit t.due)) before sent.2 in
        record { z = a.0; earlier = a.1; begins = begins_trans (a.0 ∷ a.1) before end a.2 (begins_tail x before end b); sent = a.4 }

    carries_label : (q m to : ℕ) (c : Carrier q m to) → spawn_label (in_hand (part (c.z).lane c.earlier)) (c.z).event ≡ Some t.unit
    carries_label q m to c = ap (spawn_label (in_hand (part (c.z).lane c.earlier))) c.sent

    rank_here : x.lane.rank ≡ home t.unit
    rank_here = from (origin ranks workers end run.legal n t (record { x = x; before = before; begins = b; is = is }))
      where
        from : Origin end n t (record { x = x; before = before; begins = b; is = is }) → x.lane.rank ≡ home t.unit
        from (itself l) = (direct l).0
        from (carried q m to hand sent) =
            let c = carrier q m to sent in
            let g = goal_at t.unit c.z c.earlier c.begins (carries_label q m to c) in
            let s = sends_is (c.z).lane.rank g.o m to t.unit t.due (subst (Says (c.z).lane.rank g.o) c.sent g.says) in
            sym (goes_here x before (begins_tail x before end b) q m to t.unit t.due hand sent) ∙ (g.right t.due s.0 to s.1).0

  -- a task was submitted at the home of its unit's label
  pub rank_is : (r n : ℕ) (t : TaskName) → IsSubmitted r n t end → r ≡ home t.unit
  rank_is r n t s = let a = stands_at s.0 (Submitted n t) end s.2 in sym s.1 ∙ sym (ap (λ (l : LaneName). l.rank) a.3) ∙ rank_here n t a.0 a.1 a.2 a.4

  -- a unit that needs something isn't sent
  pub needs_are : (r n : ℕ) (t : TaskName) → IsSubmitted r n t end → (l : Label) → Contains (needs t.unit) l → Contains t.needs l
  needs_are r n t s l has = let a = stands_at s.0 (Submitted n t) end s.2 in go a.0 a.1 a.2 a.4
    where
      go : (x : Mark) (before : List Mark) → Begins (x ∷ before) end → x.event ≡ Submitted n t → Contains t.needs l
      go x before b is = from (origin ranks workers end run.legal n t (record { x = x; before = before; begins = b; is = is }))
        where
          from : Origin end n t (record { x = x; before = before; begins = b; is = is }) → Contains t.needs l
          from (itself j) = subst (λ (ns : List Label). Contains ns l) (sym (direct n t x before b is j).1) has
          from (carried q m to hand sent) =
              let c = carrier n t x before b is q m to sent in
              absurd (sent_alone c.z m to c.sent (goal_at t.unit c.z c.earlier c.begins (carries_label n t x before b is q m to c)))
            where
              sent_alone : (z : Mark) (m to : ℕ) → z.event ≡ Sent m to (Spawned t.unit t.due) → {earlier : List Mark} → Goal t.unit z earlier → ⊥
              sent_alone z m to sent g = far (sends_is z.lane.rank g.o m to t.unit t.due (subst (Says z.lane.rank g.o) sent g.says))
                where
                  far : (ns : List Label) × (g.o ≡ of.Spawn t.unit t.due ns to) × (to ≢ z.lane.rank) → ⊥
                  far (ns, as_is, apart) = apart (⊎_elim (λ k. k.0 ∙ sym k.1) (λ k. k.3 ∙ sym (rank_is z.lane.rank k.0 k.1 k.2)) (g.near t.due ns to as_is some))
                    where
                      some : ns ≢ []
                      some none = none_in l (subst (λ (es : List Label). Contains es l) (sym (g.right t.due ns to as_is).1 ∙ none) has)
