-- What a message carries is delivered at the rank that it was sent to.
use Rattle.std.proofs.Common.{◌≡◌, ◌⊎◌, ℕ, ◌≤◌, Bool, true, false, List, [], ◌∷◌, ◌++◌, refl, sym, ap, ◌∙◌, subst, inl, inr, ⊎_elim, arith}
use Rattle.std.specs.Prelude.{if◌then◌else◌, ◌==◌, Option, Some}
use Rattle.std.proofs.lemmas.Bool.{eqb-true}
use Rattle.app_core.specs.declared.label.Label.{Label}
use Rattle.app_core.specs.declared.outline.Outline.TheVariants as of
use Rattle.event_lists.specs.declared.lane.LaneName.{LaneName}
use Rattle.event_lists.specs.declared.event.Event.{Event}
use Rattle.event_lists.specs.declared.event.Event.TheVariants.{Sent, TookMessage, TookTask, Handled, Submitted, Ran, Gave, Put, Erased, ReadHandled, ReadRan, ReadSubmitted, ReadSent, Enter, Leave, Receipt as Receives}
use Rattle.event_lists.specs.declared.event.Parcel.{Parcel}
use Rattle.event_lists.specs.declared.event.Parcel.TheVariants.{Unit as Spawned, Give}
use Rattle.event_lists.specs.declared.event.TaskName.{TaskName}
use Rattle.event_lists.specs.declared.mark.Item.{Item}
use Rattle.event_lists.specs.declared.mark.Item.TheVariants.{Message}
use Rattle.event_lists.specs.declared.mark.Mark.{Mark}
use Rattle.event_lists.specs.declared.kind.Kind.TheVariants.{Sends as sends}
use Rattle.event_lists.specs.Events.{part, same_lane, in_hand, times_ended, Begins, StandsOn, IsSent, IsSubmitted}
use Rattle.event_lists.specs.Counting.{Counting}
use Rattle.event_lists.specs.Dues.{Dues, Carries, SubmitsFreely, KeepsDue}
use Rattle.event_lists.specs.Futures.{is_fresh}
use Rattle.event_lists.specs.Quiet.{AllHandledOnce}
use Rattle.event_lists.specs.Legal.{Legal}
use Rattle.event_lists.proofs.LaneLemmas.{same_lane_true}
use Rattle.event_lists.proofs.ListLemmas.{legal_begins, begins_trans, on_begins}
use Rattle.event_lists.proofs.CountLemmas.{same_event}
use Rattle.event_lists.proofs.ItemLemmas.{same_item_refl, made_once}
use Rattle.event_lists.proofs.WaitingLemmas.{waiting, hand_waits, times, no_weight, only, weigh}
use Rattle.event_laws.specs.Follows.{Says}
use Rattle.event_laws.specs.Done.{IsHandedOn}
use Rattle.event_laws.proofs.PositionLemmas.{stands_at}

abbrev one_if : Bool → ℕ
one_if b = if b then 1 else 0

abbrev OfUnit : LaneName → ℕ → ℕ → List Mark → Type 0
OfUnit l r n log = (k : ℕ) × (t : TaskName) × StandsOn l (Submitted k t) log × Carries (Some (Message r n)) (Spawned t.unit t.due) log

abbrev OfGive : LaneName → ℕ → ℕ → List Mark → Type 0
OfGive l r n log = (d : Label) × StandsOn l (Gave d) log × Carries (Some (Message r n)) (Give d) log

sent_more : (r n : ℕ) (p : Parcel) (x : Mark) (log : List Mark) → Carries (Some (Message r n)) p log → Carries (Some (Message r n)) p (x ∷ log)
sent_more r n p x log c = (c.0, (c.1.0, c.1.1, inr c.1.2))

handed_more : (l : LaneName) (r n : ℕ) (x : Mark) (log : List Mark) → OfUnit l r n log ⊎ OfGive l r n log → OfUnit l r n (x ∷ log) ⊎ OfGive l r n (x ∷ log)
handed_more l r n x log (inl u) = inl (u.0, u.1, inr u.2, sent_more r n (Spawned u.1.unit u.1.due) x log u.3)
handed_more l r n x log (inr g) = inr (g.0, inr g.1, sent_more r n (Give g.0) x log g.2)

module _ (ranks workers : ℕ) where
  -- a lane that has a message in hand, which is no longer fresh, has delivered what the message carries
  pub handed : (log : List Mark) → Legal ranks workers log → (l : LaneName) (r n : ℕ) → in_hand (part l log) ≡ Some (Message r n) → is_fresh (part l log) ≡ false → OfUnit l r n log ⊎ OfGive l r n log
  handed [] h l r n hand fresh = absurd (cc)
  handed (x ∷ log) h l r n hand fresh = by_lane (λ a b. handed log h.1 l r n a b) (same_lane x.lane l) refl hand fresh
    where
      by_event : (in_hand (part l log) ≡ Some (Message r n) → is_fresh (part l log) ≡ false → OfUnit l r n log ⊎ OfGive l r n log)
          → x.lane ≡ l → (e : Event) → x.event ≡ e → Dues log l (part l log) e → in_hand (e ∷ part l log) ≡ Some (Message r n) → is_fresh (e ∷ part l log) ≡ false → OfUnit l r n (x ∷ log) ⊎ OfGive l r n (x ∷ log)
      by_event rec same (Submitted k t) is d hand fresh =
          let free : SubmitsFreely (Some (Message r n)) l log (part l log) t = subst (λ (z : Option Item). SubmitsFreely z l log (part l log) t) hand d in
          inl (k, t, inl (same, is), sent_more r n (Spawned t.unit t.due) x log free.0)
      by_event rec same (Gave f) is (inl d) hand fresh =
          let c : Carries (Some (Message r n)) (Give f) log = subst (λ (z : Option Item). Carries z (Give f) log) hand d.0 in
          inr (f, inl (same, is), sent_more r n (Give f) x log c)
      by_event rec same (Gave f) is (inr d) hand fresh = absurd (subst (λ (z : Option Item). KeepsDue z f log (part l log)) hand d)
      by_event rec same (TookMessage q m) is d hand fresh = absurd (cc)
      by_event rec same (TookTask q m) is d hand fresh = absurd (cc)
      by_event rec same (Handled k q m) is d hand fresh = absurd (cc)
      by_event rec same (Ran k q m) is d hand fresh = absurd (cc)
      by_event rec same (Sent k q p) is d hand fresh = handed_more l r n x log (rec hand fresh)
      by_event rec same (Put c) is d hand fresh = handed_more l r n x log (rec hand fresh)
      by_event rec same (Erased c) is d hand fresh = handed_more l r n x log (rec hand fresh)
      by_event rec same (ReadHandled v e p) is d hand fresh = handed_more l r n x log (rec hand fresh)
      by_event rec same (ReadRan v e p) is d hand fresh = handed_more l r n x log (rec hand fresh)
      by_event rec same (ReadSubmitted v e p) is d hand fresh = handed_more l r n x log (rec hand fresh)
      by_event rec same (ReadSent v e p) is d hand fresh = handed_more l r n x log (rec hand fresh)
      by_event rec same (Enter e) is d hand fresh = handed_more l r n x log (rec hand fresh)
      by_event rec same (Leave e) is d hand fresh = handed_more l r n x log (rec hand fresh)
      by_event rec same (Receives e) is d hand fresh = handed_more l r n x log (rec hand fresh)

      by_lane : (in_hand (part l log) ≡ Some (Message r n) → is_fresh (part l log) ≡ false → OfUnit l r n log ⊎ OfGive l r n log)
          → (b : Bool) → same_lane x.lane l ≡ b → in_hand (if b then x.event ∷ part l log else part l log) ≡ Some (Message r n) → is_fresh (if b then x.event ∷ part l log else part l log) ≡ false → OfUnit l r n (x ∷ log) ⊎ OfGive l r n (x ∷ log)
      by_lane rec true e hand fresh = let same = same_lane_true x.lane l e in by_event rec same x.event refl (subst (λ (m : LaneName). Dues log m (part m log) x.event) same h.0.dues) hand fresh
      by_lane rec false e hand fresh = handed_more l r n x log (rec hand fresh)

  -- a message that was sent is one
  pub same_sent : (log : List Mark) → Legal ranks workers log → (r n to q : ℕ) (p s : Parcel) → IsSent r n to p log → IsSent r n q s log → (to ≡ q) × (p ≡ s)
  same_sent log h r n to q p s a b =
      let e = (same_event ranks workers log h sends n a.0 b.0 (Sent n to p) (Sent n q s) refl refl (a.1 ∙ sym b.1) a.2 b.2).1 in
      (cc, cc)

  pub submitted_begins : (r n : ℕ) (t : TaskName) (old log : List Mark) → Begins old log → IsSubmitted r n t old → IsSubmitted r n t log
  submitted_begins r n t old log to s = (s.0, s.1, on_begins s.0 (Submitted n t) old log to s.2)

  pub sent_begins : (r n q : ℕ) (p : Parcel) (old log : List Mark) → Begins old log → IsSent r n q p old → IsSent r n q p log
  sent_begins r n q p old log to s = (s.0, s.1, on_begins s.0 (Sent n q p) old log to s.2)

  -- where all messages are handled, what each carries is delivered where it was sent to
  pub handed_on : (log : List Mark) → Legal ranks workers log → AllHandledOnce log → (r n to : ℕ) (p : Parcel) → IsSent r n to p log → IsHandedOn to p log
  handed_on log h all r n to p s =
      let there = (all r n to p s).1 in
      let at = stands_at there.0 (Handled there.1 r n) log there.3 in
      let legal = legal_begins ranks workers (at.0 ∷ at.1) log at.2 h in
      let counting : Counting ranks at.1 at.0.lane (part at.0.lane at.1) (Handled there.1 r n) = subst (λ (z : Event). Counting ranks at.1 at.0.lane (part at.0.lane at.1) z) at.4 legal.0.counting in
      let dues : Dues at.1 at.0.lane (part at.0.lane at.1) (Handled there.1 r n) = subst (λ (z : Event). Dues at.1 at.0.lane (part at.0.lane at.1) z) at.4 legal.0.dues in
      let before : Begins at.1 log = begins_trans at.1 (at.0 ∷ at.1) log (at.0 ∷ [], refl) at.2 in
      let rank : at.0.lane.rank ≡ to = ap (λ (m : LaneName). m.rank) at.3 ∙ there.2 in
      ⊎_elim
      (λ (c : OfUnit at.0.lane r n at.1).
      let is = (same_sent log h r n c.3.0 to (Spawned c.1.unit c.1.due) p (sent_begins r n c.3.0 (Spawned c.1.unit c.1.due) at.1 log before c.3.1) s).1 in
      subst (λ (z : Parcel). IsHandedOn to z log) is (c.0, c.1, refl, refl, (at.0.lane, rank, on_begins at.0.lane (Submitted c.0 c.1) at.1 log before c.2)))
      (λ (c : OfGive at.0.lane r n at.1).
      let is = (same_sent log h r n c.2.0 to (Give c.0) p (sent_begins r n c.2.0 (Give c.0) at.1 log before c.2.1) s).1 in
      subst (λ (z : Parcel). IsHandedOn to z log) is (at.0.lane, rank, on_begins at.0.lane (Gave c.0) at.1 log before c.1))
      (handed at.1 legal.1 at.0.lane r n counting.1 dues)

  pub arrives : (log : List Mark) → Legal ranks workers log → AllHandledOnce log → (r n to : ℕ) (u : Label) (d : Option Label) → IsSent r n to (Spawned u d) log → (k : ℕ) × (t : TaskName) × (t.unit ≡ u) × IsSubmitted to k t log
  arrives log h all r n to u d s = let a = handed_on log h all r n to (Spawned u d) s in (a.0, a.1, a.2, a.4)

  -- so a spawn in the list has its unit submitted at its home
  pub spawn_arrives : (log : List Mark) → Legal ranks workers log → AllHandledOnce log → (l : LaneName) (r : ℕ) (e : Event) (u : Label) (d : Option Label) (ns : List Label) (home : ℕ) → l.rank ≡ r → StandsOn l e log → Says r (of.Spawn u d ns home) e
      → (k : ℕ) × (t : TaskName) × (t.unit ≡ u) × IsSubmitted home k t log
  spawn_arrives log h all l r e u d ns home rank s says = go (home == r) refl (subst (λ (z : Event). StandsOn l z log) says.1 s)
    where
      go : (b : Bool) → (home == r) ≡ b → StandsOn l (if b then Submitted says.0 (record { unit = u; needs = ns; due = d }) else Sent says.0 home (Spawned u d)) log → (k : ℕ) × (t : TaskName) × (t.unit ≡ u) × IsSubmitted home k t log
      go true i s = (says.0, record { unit = u; needs = ns; due = d }, refl, (l, rank ∙ sym (eqb-true home r i), s))
      go false i s = arrives log h all r says.0 home u d (l, rank, s)

  -- what is in hand did not end before
  pub still_open : (old log : List Mark) → Legal ranks workers log → Begins old log → (l : LaneName) (c : Item) → in_hand (part l log) ≡ Some c → times_ended c old ≡ 1 → ⊥
  still_open old log h to l c hand ended =
      let waits = hand_waits ranks workers log h l c hand in
      let none : weigh (only c) (waiting log) ≡ 0 = omega (arith, times c ranks workers log h, made_once ranks workers log h c, subst (λ (z : List Mark). times_ended c old ≤ times_ended c z) (sym to.1) (more to.0), ended) in
      let zero = no_weight (only c) (waiting log) c none waits in
      let one : one_if true ≡ 0 = ap one_if (sym (same_item_refl c)) ∙ zero in
      absurd (omega (arith, one))
    where
      more : (m : List Mark) → times_ended c old ≤ times_ended c (m ++ old)
      more [] = omega arith
      more (y ∷ m) = omega (arith, more m)
